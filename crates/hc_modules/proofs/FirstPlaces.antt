-- First places of names, and rows of first calls.
use Rattle.std.proofs.Common.{◌≡◌, ℕ, suc, ◌+◌, ◌<◌, ◌⊎◌, inl, inr, Bool, true, false, cond, ◌||◌, nat_eq, List, [], ◌∷◌, ◌++◌, length, map, refl, sym, ap, ap₂, subst, ◌∙◌, arith}
use Rattle.std.proofs.lemmas.Bool.Decides.{Decides-eqb}
use Rattle.std.proofs.lemmas.Option.{slice_get_within}
use Rattle.std.specs.Prelude.{Some, slice_get}
use Rattle.std.specs.List.{zip}
use Rattle.hc_signal.specs.Member.{Has, first, later}
use Rattle.hc_walk.proofs.Members.{has_slice}
use Rattle.hc_canon.specs.declared.form.EntryId.{EntryId}
use Rattle.hc_canon.proofs.LaidOut.{has_index, slice_right, slice_left, slice_cases}
use Rattle.hc_dbstate.specs.Elaboration.{CallView}
use Rattle.hc_names.specs.NameRows.{name_of_entry}
use Rattle.hc_names.specs.Naming.{NameRow, is_among, first_rows}
use Rattle.hc_modules.specs.VerilogText.{IsFirst}

-- a name after names without it
pub first_after : (pre rest : List (List ℕ)) (n : List ℕ) → ¬ Has pre n → IsFirst (pre ++ n ∷ rest) (length pre) n
first_after pre rest n free =
    let end : length pre + 0 ≡ length pre = omega arith in
    (subst (λ k. slice_get (pre ++ n ∷ rest) k ≡ Some n) end (slice_right pre (n ∷ rest) 0), before)
  where
    before : (j : ℕ) → j < length pre → slice_get (pre ++ n ∷ rest) j ≡ Some n → ⊥
    before j lt at = elim (slice_cases pre (n ∷ rest) j n at) [
      | inl here ↦ free (has_slice pre j n here)
      | inr there ↦ let beyond : j ≡ length pre + there.0 = there.1 in absurd (omega (arith, beyond, lt))
    ]

-- a name after names with it
pub not_first_after : (pre rest : List (List ℕ)) (n name : List ℕ) → Has pre n → IsFirst (pre ++ n ∷ rest) (length pre) name → ⊥
not_first_after pre rest n name has is =
    let end : length pre + 0 ≡ length pre = omega arith in
    let here : slice_get (pre ++ n ∷ rest) (length pre) ≡ Some n = subst (λ k. slice_get (pre ++ n ∷ rest) k ≡ Some n) end (slice_right pre (n ∷ rest) 0) in
    let there : slice_get (pre ++ n ∷ rest) (length pre) ≡ Some name = is.0 in
    let i = has_index has in
    let early : slice_get (pre ++ n ∷ rest) i.0 ≡ Some n = slice_left pre (n ∷ rest) i.0 n i.1 in
    let same : slice_get (pre ++ n ∷ rest) i.0 ≡ Some name = cc in
    is.1 i.0 (slice_get_within pre i.0 n i.1) same

pub id_is : (i j : EntryId) → nat_eq i.0 j.0 ≡ true → i ≡ j
id_is i j e = ap (λ (k : ℕ). let id : EntryId = record { 0 = k } in id) ((Decides-eqb i.0 j.0).0 e)

pub among_first : (id : EntryId) (seen : List EntryId) → is_among id (id ∷ seen) ≡ true
among_first id seen = ap (λ (b : Bool). b || is_among id seen) ((Decides-eqb id.0 id.0).1 refl)

or_true : (b : Bool) → (b || true) ≡ true
or_true true = refl
or_true false = refl

pub among_later : (id other : EntryId) (seen : List EntryId) → is_among id seen ≡ true → is_among id (other ∷ seen) ≡ true
among_later id other seen e = ap (λ (b : Bool). nat_eq id.0 other.0 || b) e ∙ or_true (nat_eq id.0 other.0)

pub among_cases : (id other : EntryId) (seen : List EntryId) → is_among id (other ∷ seen) ≡ true → (id ≡ other) ⊎ (is_among id seen ≡ true)
among_cases id other seen e = by (nat_eq id.0 other.0) refl e
  where
    by : (b : Bool) → nat_eq id.0 other.0 ≡ b → (b || is_among id seen) ≡ true → (id ≡ other) ⊎ (is_among id seen ≡ true)
    by true is e = inl (id_is id other is)
    by false is e = inr e

-- ---- rows

-- an entry with a name has a row
pub name_has_row : (rows : List NameRow) (id : EntryId) (name : List ℕ) → name_of_entry rows id ≡ Some name → Has rows (id, name)
name_has_row [] id name e = absurd cc
name_has_row (x ∷ rows) id name e = by (λ rest. name_has_row rows id name rest) (nat_eq id.0 x.0.0) refl
  where
    by : (name_of_entry rows id ≡ Some name → Has rows (id, name)) → (b : Bool) → nat_eq id.0 x.0.0 ≡ b → Has (x ∷ rows) (id, name)
    by more true is =
        let value : Some x.1 ≡ Some name = rw is at e in
        let same : x.1 ≡ name = cc in
        subst (λ (r : NameRow). Has (x ∷ rows) r) (ap₂ {C = NameRow} (λ i n. (i, n)) (sym (id_is id x.0 is)) same) first
    by more false is = let rest : name_of_entry rows id ≡ Some name = rw is at e in later (more rest)

has_split : {X : Type 0} {x y : X} {xs : List X} → Has (x ∷ xs) y → (y ≡ x) ⊎ Has xs y
has_split first = inl refl
has_split (later h) = inr h

-- the first rows are among the rows
pub first_rows_among : (seen : List EntryId) (rows : List NameRow) (row : NameRow) → Has (first_rows seen rows) row → Has rows row
first_rows_among seen [] row h = elim h [ ]
first_rows_among seen (x ∷ rows) row h = by (λ s k. first_rows_among s rows row k) (is_among x.0 seen) h
  where
    by : ((s : List EntryId) → Has (first_rows s rows) row → Has rows row) → (b : Bool) → Has (cond b (first_rows seen rows) (x ∷ first_rows (x.0 ∷ seen) rows)) row → Has (x ∷ rows) row
    by more true k = later (more seen k)
    by more false k = elim (has_split k) [
      | inl is ↦ subst (λ (r : NameRow). Has (x ∷ rows) r) (sym is) first
      | inr rest ↦ later (more (x.0 ∷ seen) rest)
    ]

-- the call of a row
pub row_call : (cs : List CallView) (names : List (List ℕ)) (id : EntryId) (name : List ℕ) → Has (zip (map (λ (c : CallView). c.own.entry) cs) names) (id, name)
    → (j : ℕ) × (c : CallView) × (slice_get cs j ≡ Some c) × (c.own.entry ≡ id) × (slice_get names j ≡ Some name)
row_call [] names id name h = elim h [ ]
row_call (c ∷ cs) [] id name h = elim h [ ]
row_call (c ∷ cs) (n ∷ names) id name h = elim (has_split h) [
  | inl is ↦ (0, c, refl, ap (λ (r : NameRow). r.0) (sym is), ap (λ (r : NameRow). Some r.1) (sym is))
  | inr rest ↦ let r = row_call cs names id name rest in (suc r.0, r.1, r.2, r.3, r.4)
]
