-- Tables lose nothing with parts that are not there.
use Rattle.std.proofs.Common.{◌≡◌, ℕ, zero, suc, ◌<◌, Bool, true, false, cond, List, [], ◌∷◌, length, map, refl, sym, ap, subst}
use Rattle.std.specs.Prelude.{Option, Some, None, slice_get, nat_lt}
use Rattle.std.proofs.lemmas.Bool.Decides.{Decides-ltb}
use Rattle.std.proofs.lemmas.Option.{slice_get_within}
use Rattle.hc_signal.specs.Member.{Has, first, later}
use Rattle.hc_signal.specs.Graph.{Graph}
use Rattle.hc_steps.specs.Plan.{Step, Part, steps_of, steps_at}
use Rattle.hc_steps.specs.Tables.{Tables, AreTables, Reads, by_make, by_pass, Takes, by_take, row}
use Rattle.hc_settling.specs.Compiled.{present, present_tables}

-- a part of which something is said is there
part_inside : (plan : List Part) (j : ℕ) (o : Option Part) → slice_get plan j ≡ o → (s : Step) → Has (steps_of o) s → j < length plan
part_inside plan j None e s h = elim h [ ]
part_inside plan j (Some part) e s h = slice_get_within plan j part e

step_inside : (plan : List Part) (j : ℕ) (s : Step) → Has (steps_at plan j) s → j < length plan
step_inside plan j s h = part_inside plan j (slice_get plan j) refl s h

reader_inside : (g : Graph) (plan : List Part) (j n : ℕ) → Reads g plan j n → j < length plan
reader_inside g plan j n (by_make {m = m} x h y c) = step_inside plan j _ h
reader_inside g plan j n (by_pass h) = step_inside plan j _ h

taker_inside : (graphs : ℕ → Graph) (plan : List Part) (j i w : ℕ) → Takes graphs plan j i w → j < length plan
taker_inside graphs plan j i w (by_take h e) = step_inside plan j _ h

module _ (many : ℕ) where
  present_cons : (k : ℕ) (ks : List ℕ) (b : Bool) → nat_lt k many ≡ b → present many (k ∷ ks) ≡ cond b (k ∷ present many ks) (present many ks)
  present_cons k ks b e = ap (λ (c : Bool). cond c (k ∷ present many ks) (present many ks)) e

  pub has_present : (ks : List ℕ) (j : ℕ) → Has ks j → j < many → Has (present many ks) j
  has_present [] j h l = elim h [ ]
  has_present (k ∷ ks) _ first l = subst (λ (xs : List ℕ). Has xs k) (sym (present_cons k ks true ((Decides-ltb k many).1 l))) first
  has_present (k ∷ ks) j (later h) l = by (nat_lt k many) refl (has_present ks j h l)
    where
      by : (b : Bool) → nat_lt k many ≡ b → Has (present many ks) j → Has (present many (k ∷ ks)) j
      by true e c = subst (λ (xs : List ℕ). Has xs j) (sym (present_cons k ks true e)) (later c)
      by false e c = subst (λ (xs : List ℕ). Has xs j) (sym (present_cons k ks false e)) c

  own_first : (k : ℕ) (ks : List ℕ) (j : ℕ) → k < many → (Has (present many ks) j → Has ks j × (j < many)) → Has (k ∷ present many ks) j → Has (k ∷ ks) j × (j < many)
  own_first k ks _ l more first = (first, l)
  own_first k ks j l more (later c) = let m = more c in (later m.0, m.1)

  pub present_has : (ks : List ℕ) (j : ℕ) → Has (present many ks) j → Has ks j × (j < many)
  present_has [] j h = elim h [ ]
  present_has (k ∷ ks) j h = by (nat_lt k many) refl (present_has ks j)
    where
      at : (b : Bool) → nat_lt k many ≡ b → Has (cond b (k ∷ present many ks) (present many ks)) j
      at b e = subst (λ (xs : List ℕ). Has xs j) (present_cons k ks b e) h

      by : (b : Bool) → nat_lt k many ≡ b → (Has (present many ks) j → Has ks j × (j < many)) → Has (k ∷ ks) j × (j < many)
      by true e more = own_first k ks j ((Decides-ltb k many).0 e) more (at true e)
      by false e more = let m = more (at false e) in (later m.0, m.1)

  pub row_present : (table : List (List ℕ)) (k : ℕ) → row (map (present many) table) k ≡ present many (row table k)
  row_present [] k = refl
  row_present (ks ∷ table) zero = refl
  row_present (ks ∷ table) (suc k) = row_present table k

  pub in_present : (table : List (List ℕ)) (k j : ℕ) → Has (row table k) j → j < many → Has (row (map (present many) table) k) j
  in_present table k j h l = subst (λ (xs : List ℕ). Has xs j) (sym (row_present table k)) (has_present (row table k) j h l)

pub are_present : {g : Graph} {graphs : ℕ → Graph} {plans : ℕ → List Part} {plan : List Part} {tables : Tables} → AreTables g graphs plans plan tables
    → AreTables g graphs plans plan (present_tables (length plan) tables)
are_present {g = g} {graphs = graphs} {plan = plan} {tables = tables} t = record {
  readers = λ a j n made reads other. in_present (length plan) tables.readers a j (t.readers a j n made reads other) (reader_inside g plan j n reads);
  takers = λ a j i b w ran made takes other. in_present (length plan) tables.takers a j (t.takers a j i b w ran made takes other) (taker_inside graphs plan j i w takes);
  inputs = λ k j n y reads. in_present (length plan) tables.input_readers k j (t.inputs k j n y reads) (reader_inside g plan j n reads);
  state = λ j n x h y s. has_present (length plan) tables.state_parts j (t.state j n x h y s) (step_inside plan j _ h);
  one_run = t.one_run;
  one_step = t.one_step;
}
