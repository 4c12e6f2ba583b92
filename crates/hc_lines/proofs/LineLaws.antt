-- The forms of lines: what is spelled as a line is read, and the other way round.
use Rattle.std.proofs.Common.{◌≡◌, ℕ, ◌≤◌, Bool, true, false, ℤ, pos, ◌&&◌, List, [], ◌∷◌, ◌++◌, map, length, Some, codes, refl, sym, ◌∙◌, ap, subst, arith}
use Rattle.std.specs.List.{list_all}
use Rattle.std.proofs.lemmas.List.Sums.{AllPass-from_list_all, list_all-from_AllPass}
use Rattle.hc_tokens.specs.declared.token.Token.TheVariants.{Word, Int, Sized, Operator, Mark}
use Rattle.hc_tokens.specs.declared.tree.Num.{Num}
use Rattle.hc_sigtext.specs.declared.tree.IdentText.{IdentText}
use Rattle.hc_sigtext.specs.declared.tree.Sig.{Sig}
use Rattle.hc_lines.specs.declared.tree.BenchValue.{BenchValue}
use Rattle.hc_lines.specs.declared.tree.What.TheVariants as what
use Rattle.hc_lines.specs.declared.tree.BenchWhat.TheVariants as bench_step
use Rattle.hc_lines.specs.declared.line.Keyword.{Keyword}
use Rattle.hc_lines.specs.declared.line.Keyword.TheVariants as key
use Rattle.hc_tokens.specs.Words.{is_name}
use Rattle.hc_tokens.specs.Grammar as nums
use Rattle.hc_lines.specs.Grammar as g
use Rattle.hc_lines.specs.Grammar.{Text, Tokens, Line, IsName, AreNames, IsNum, IsAtom, AreAtoms, IsIdent, IsSig, IsForm, IsSimple, IsStep, IsValue, most_open}
use Rattle.hc_tokens.specs.Reading.{number_at}
use Rattle.hc_sigtext.specs.SigReading.{bind, ident_at, signal_at}
use Rattle.hc_lines.specs.LineReading as r
use Rattle.hc_lines.specs.LineReading.{seq, atom_at, all_items, past_end, written, line_at, line_by}
use Rattle.hc_lines.proofs.Parts.{Last, Then, then_last, ends, line_found, line_sound}
use Rattle.hc_lines.proofs.LineParts.{ident_part, sig_part, atom_part, name_part, num_last, value_part, Named}
use Rattle.hc_lines.proofs.ItemParts.{AreItems, items_last}

-- ---- the parts after the first word

pub ident_sig : Last (Then IsIdent IsSig) (λ d. seq (ident_at d) (signal_at d))
ident_sig = then_last IsIdent IsSig ident_at signal_at ident_part (ends IsSig signal_at sig_part)

pub ident_num : Last (Then IsIdent IsNum) (λ d. seq (ident_at d) (number_at d))
ident_num = then_last IsIdent IsNum ident_at number_at ident_part num_last

pub ident_name : Last (Then IsIdent Named) (λ d. seq (ident_at d) r.name)
ident_name = then_last IsIdent Named ident_at (λ d. r.name) ident_part (ends Named (λ d. r.name) name_part)

pub name_num : Last (Then Named IsNum) (λ d. seq r.name (number_at d))
name_num = then_last Named IsNum (λ d. r.name) number_at name_part num_last

abbrev pub TwoAtoms : Tokens → Num × Num → Type 0
TwoAtoms = Then IsAtom IsAtom

pub two_atoms : Last TwoAtoms (λ d. seq (atom_at d) (atom_at d))
two_atoms = then_last IsAtom IsAtom atom_at atom_at atom_part (ends IsAtom atom_at atom_part)

pub ident_atoms : Last (Then IsIdent TwoAtoms) (λ d. seq (ident_at d) (seq (atom_at d) (atom_at d)))
ident_atoms = then_last IsIdent TwoAtoms ident_at (λ d. seq (atom_at d) (atom_at d)) ident_part two_atoms

pub name_atoms : Last (Then Named TwoAtoms) (λ d. seq r.name (seq (atom_at d) (atom_at d)))
name_atoms = then_last Named TwoAtoms (λ d. r.name) (λ d. seq (atom_at d) (atom_at d)) name_part two_atoms

pub name_value : Last (Then Named IsValue) (λ d. seq r.name r.value_of)
name_value = then_last Named IsValue (λ d. r.name) (λ d. r.value_of) name_part (ends IsValue (λ d. r.value_of) value_part)

named_long : (ts : Tokens) (w : Text) → Named ts w → 1 ≤ length ts
named_long ts w h = subst (λ us. 1 ≤ length us) (sym h.0) (omega arith)

pub atom_long : (ts : Tokens) (n : Num) → IsAtom ts n → 1 ≤ length ts
atom_long ts n (nums.literal z) = omega arith
atom_long ts n (nums.name w h) = omega arith
atom_long ts n (nums.group s) = omega arith
atom_long ts n (nums.bits s) = omega arith

pub names_last : Last (Then Named (AreItems Named)) (λ d. seq r.name (all_items past_end r.name))
names_last = then_last Named (AreItems Named) (λ d. r.name) (λ d. all_items past_end r.name) name_part (items_last Named (λ d. r.name) name_part named_long)

pub top_last : Last (Then Named (AreItems IsAtom)) (λ d. seq r.name (all_items past_end (atom_at d)))
top_last = then_last Named (AreItems IsAtom) (λ d. r.name) (λ d. all_items past_end (atom_at d)) name_part (items_last IsAtom atom_at atom_part atom_long)

-- ---- the first word

keyword_of-written : (k : Keyword) → r.keyword_of (written k) ≡ Some k
unfolding r.keyword_of
keyword_of-written key.Circuit = refl
keyword_of-written key.Input = refl
keyword_of-written key.Output = refl
keyword_of-written key.Let = refl
keyword_of-written key.Wire = refl
keyword_of-written key.Assign = refl
keyword_of-written key.Label = refl
keyword_of-written key.Reg = refl
keyword_of-written key.Memory = refl
keyword_of-written key.Write = refl
keyword_of-written key.Inst = refl
keyword_of-written key.For = refl
keyword_of-written key.If = refl
keyword_of-written key.Else = refl
keyword_of-written key.End = refl
keyword_of-written key.Top = refl
keyword_of-written key.Bench = refl
keyword_of-written key.Set = refl
keyword_of-written key.Cycle = refl
keyword_of-written key.Reset = refl

pub keyed : (k : Keyword) (d : ℕ) (ts : Tokens) → line_at d (Word (written k) ∷ ts) ≡ line_by k d ts
keyed k d ts = ap (λ x. bind x (λ y. line_by y d ts)) (keyword_of-written k)

-- ---- lists of names and atoms

both_true : (a b : Bool) → (a && b) ≡ true → (a ≡ true) × (b ≡ true)
both_true true b e = (refl, e)
both_true false b e = absurd cc

and_true : (a b : Bool) → a ≡ true → b ≡ true → (a && b) ≡ true
and_true true b e f = f
and_true false b e f = absurd cc

names_items : (ps : List Text) → list_all is_name ps ≡ true → AreItems Named (map Word ps) ps
names_items [] e = refl
names_items (p ∷ ps) e = let both = both_true (is_name p) (list_all is_name ps) e in (Word p ∷ [], map Word ps, refl, (refl, both.0), names_items ps both.1)

items_names : (ps : List Text) (ts : Tokens) → AreItems Named ts ps → (ts ≡ map Word ps) × (list_all is_name ps ≡ true)
items_names [] ts h = (h, refl)
items_names (p ∷ ps) ts h = names_step p ps ts h.0 h.1 h.2 h.3 (items_names ps h.1 h.4)
  where
    names_step : (p : Text) (ps : List Text) (ts xs ys : Tokens) → ts ≡ xs ++ ys → Named xs p → (ys ≡ map Word ps) × (list_all is_name ps ≡ true)
        → (ts ≡ Word p ∷ map Word ps) × ((is_name p && list_all is_name ps) ≡ true)
    names_step p ps ts xs ys e n h = (e ∙ ap (λ us. us ++ ys) n.0 ∙ ap (λ us. Word p ∷ us) h.0, and_true (is_name p) (list_all is_name ps) n.1 h.1)

pub atoms_items : {ts : Tokens} {ns : List Num} → AreAtoms ts ns → AreItems IsAtom ts ns
atoms_items nums.none = refl
atoms_items (nums.more {ts} {us} h k) = (ts, us, refl, h, atoms_items k)

pub items_atoms : (ns : List Num) (ts : Tokens) → AreItems IsAtom ts ns → AreAtoms ts ns
items_atoms [] ts h = subst (λ us. AreAtoms us []) (sym h) nums.none
items_atoms (n ∷ ns) ts h = subst (λ us. AreAtoms us (n ∷ ns)) (sym h.2) (nums.more h.3 (items_atoms ns h.1 h.4))

pub then_elim : {A B : Type 0} (P : Tokens → A → Type 0) (Q : Tokens → B → Type 0) (Goal : Tokens → Type 0) (ts : Tokens) (p : A × B) → Then P Q ts p
    → ((xs ys : Tokens) → P xs p.0 → Q ys p.1 → Goal (xs ++ ys)) → Goal ts
then_elim P Q Goal ts p h f = subst Goal (sym h.2) (f h.0 h.1 h.3 h.4)

abbrev pub Spelled : Keyword → ℕ → Tokens → Line → Type 0
Spelled k d ts l = IsForm (Word (written k) ∷ ts) l × (most_open 0 ts ≤ d)

abbrev pub Found : Keyword → Tokens → Line → Type 0
Found k ts l = (d : ℕ) → most_open 0 ts ≤ d → line_by k d ts ≡ Some l

pub let_found : (ts us : Tokens) (i : IdentText) (s : Sig) → IsIdent ts i → IsSig us s → Found key.Let (ts ++ us) (g.Simple (what.Let i s))
unfolding r.line_by r.let_line
let_found ts us i s h k d l = line_found (Then IsIdent IsSig) (λ d. seq (ident_at d) (signal_at d)) ident_sig (λ p. g.Simple (what.Let p.0 p.1)) (ts ++ us) (i, s)
    (ts, us, refl, h, k) d 0 (omega arith)

pub let_sound : (d : ℕ) (ts : Tokens) (l : Line) → line_by key.Let d ts ≡ Some l → Spelled key.Let d ts l
unfolding r.line_by r.let_line
let_sound d ts l e =
    let s = line_sound (Then IsIdent IsSig) (λ d. seq (ident_at d) (signal_at d)) ident_sig (λ p. g.Simple (what.Let p.0 p.1)) d ts l e in (
      subst (λ x. IsForm (Word (written key.Let) ∷ ts) x) s.1 (then_elim IsIdent IsSig (λ us. IsForm (Word (written key.Let) ∷ us) (g.Simple (what.Let s.0.0 s.0.1))) ts s.0 s.2
          (λ xs ys x y. g.simple (g.let_line x y))),
      s.3,
    )

pub assign_found : (ts us : Tokens) (i : IdentText) (s : Sig) → IsIdent ts i → IsSig us s → Found key.Assign (ts ++ us) (g.Simple (what.Assign i s))
unfolding r.line_by r.assign_line
assign_found ts us i s h k d l = line_found (Then IsIdent IsSig) (λ d. seq (ident_at d) (signal_at d)) ident_sig (λ p. g.Simple (what.Assign p.0 p.1)) (ts ++ us) (i, s)
    (ts, us, refl, h, k) d 0 (omega arith)

pub assign_sound : (d : ℕ) (ts : Tokens) (l : Line) → line_by key.Assign d ts ≡ Some l → Spelled key.Assign d ts l
unfolding r.line_by r.assign_line
assign_sound d ts l e =
    let s = line_sound (Then IsIdent IsSig) (λ d. seq (ident_at d) (signal_at d)) ident_sig (λ p. g.Simple (what.Assign p.0 p.1)) d ts l e in (
      subst (λ x. IsForm (Word (written key.Assign) ∷ ts) x) s.1 (then_elim IsIdent IsSig (λ us. IsForm (Word (written key.Assign) ∷ us) (g.Simple (what.Assign s.0.0 s.0.1))) ts s.0
          s.2 (λ xs ys x y. g.simple (g.assign_line x y))),
      s.3,
    )

pub wire_found : (ts us : Tokens) (i : IdentText) (n : Num) → IsIdent ts i → IsNum us n → Found key.Wire (ts ++ us) (g.Simple (what.Wire i n))
unfolding r.line_by r.wire_line
wire_found ts us i n h k d l = line_found (Then IsIdent IsNum) (λ d. seq (ident_at d) (number_at d)) ident_num (λ p. g.Simple (what.Wire p.0 p.1)) (ts ++ us) (i, n)
    (ts, us, refl, h, k) d 0 (omega arith)

pub wire_sound : (d : ℕ) (ts : Tokens) (l : Line) → line_by key.Wire d ts ≡ Some l → Spelled key.Wire d ts l
unfolding r.line_by r.wire_line
wire_sound d ts l e =
    let s = line_sound (Then IsIdent IsNum) (λ d. seq (ident_at d) (number_at d)) ident_num (λ p. g.Simple (what.Wire p.0 p.1)) d ts l e in (
      subst (λ x. IsForm (Word (written key.Wire) ∷ ts) x) s.1 (then_elim IsIdent IsNum (λ us. IsForm (Word (written key.Wire) ∷ us) (g.Simple (what.Wire s.0.0 s.0.1))) ts s.0 s.2
          (λ xs ys x y. g.simple (g.wire_line x y))),
      s.3,
    )

pub label_found : (ts : Tokens) (i : IdentText) (w : Text) → IsIdent ts i → IsName w → Found key.Label (ts ++ (Word w ∷ [])) (g.Simple (what.Label i w))
unfolding r.line_by r.label_line
label_found ts i w h k d l = line_found (Then IsIdent Named) (λ d. seq (ident_at d) r.name) ident_name (λ p. g.Simple (what.Label p.0 p.1)) (ts ++ (Word w ∷ [])) (i, w)
    (ts, Word w ∷ [], refl, h, (refl, k)) d 0 (omega arith)

pub label_sound : (d : ℕ) (ts : Tokens) (l : Line) → line_by key.Label d ts ≡ Some l → Spelled key.Label d ts l
unfolding r.line_by r.label_line
label_sound d ts l e =
    let s = line_sound (Then IsIdent Named) (λ d. seq (ident_at d) r.name) ident_name (λ p. g.Simple (what.Label p.0 p.1)) d ts l e in (
      subst (λ x. IsForm (Word (written key.Label) ∷ ts) x) s.1 (then_elim IsIdent Named (λ us. IsForm (Word (written key.Label) ∷ us) (g.Simple (what.Label s.0.0 s.0.1))) ts s.0
          s.2 (λ xs ys x y. subst (λ us. IsForm (Word (codes "label") ∷ (xs ++ us)) (g.Simple (what.Label s.0.0 s.0.1))) (sym y.0) (g.simple (g.label_line s.0.1 y.1 x)))),
      s.3,
    )

pub input_found : (us : Tokens) (w : Text) (n : Num) → IsName w → IsNum us n → Found key.Input (Word w ∷ us) (g.Port true w n)
unfolding r.line_by r.port_line
input_found us w n h k d l = line_found (Then Named IsNum) (λ d. seq r.name (number_at d)) name_num (λ p. g.Port true p.0 p.1) (Word w ∷ us) (w, n)
    (Word w ∷ [], us, refl, (refl, h), k) d 0 (omega arith)

pub input_sound : (d : ℕ) (ts : Tokens) (l : Line) → line_by key.Input d ts ≡ Some l → Spelled key.Input d ts l
unfolding r.line_by r.port_line
input_sound d ts l e =
    let s = line_sound (Then Named IsNum) (λ d. seq r.name (number_at d)) name_num (λ p. g.Port true p.0 p.1) d ts l e in (
      subst (λ x. IsForm (Word (written key.Input) ∷ ts) x) s.1 (then_elim Named IsNum (λ us. IsForm (Word (written key.Input) ∷ us) (g.Port true s.0.0 s.0.1)) ts s.0 s.2
          (λ xs ys x y. subst (λ us. IsForm (Word (written key.Input) ∷ (us ++ ys)) (g.Port true s.0.0 s.0.1)) (sym x.0) (g.input s.0.0 x.1 y))),
      s.3,
    )

pub output_found : (us : Tokens) (w : Text) (n : Num) → IsName w → IsNum us n → Found key.Output (Word w ∷ us) (g.Port false w n)
unfolding r.line_by r.port_line
output_found us w n h k d l = line_found (Then Named IsNum) (λ d. seq r.name (number_at d)) name_num (λ p. g.Port false p.0 p.1) (Word w ∷ us) (w, n)
    (Word w ∷ [], us, refl, (refl, h), k) d 0 (omega arith)

pub output_sound : (d : ℕ) (ts : Tokens) (l : Line) → line_by key.Output d ts ≡ Some l → Spelled key.Output d ts l
unfolding r.line_by r.port_line
output_sound d ts l e =
    let s = line_sound (Then Named IsNum) (λ d. seq r.name (number_at d)) name_num (λ p. g.Port false p.0 p.1) d ts l e in (
      subst (λ x. IsForm (Word (written key.Output) ∷ ts) x) s.1 (then_elim Named IsNum (λ us. IsForm (Word (written key.Output) ∷ us) (g.Port false s.0.0 s.0.1)) ts s.0 s.2
          (λ xs ys x y. subst (λ us. IsForm (Word (written key.Output) ∷ (us ++ ys)) (g.Port false s.0.0 s.0.1)) (sym x.0) (g.output s.0.0 x.1 y))),
      s.3,
    )

pub memory_found : (ts us vs : Tokens) (i : IdentText) (a b : Num) → IsIdent ts i → IsAtom us a → IsAtom vs b → Found key.Memory (ts ++ (us ++ vs)) (g.Simple (what.Memory i a b))
unfolding r.line_by r.memory_line
memory_found ts us vs i a b h k j d l = line_found (Then IsIdent TwoAtoms) (λ d. seq (ident_at d) (seq (atom_at d) (atom_at d))) ident_atoms
    (λ p. g.Simple (what.Memory p.0 p.1.0 p.1.1)) (ts ++ (us ++ vs)) (i, (a, b)) (ts, us ++ vs, refl, h, (us, vs, refl, k, j)) d 0 (omega arith)

pub memory_sound : (d : ℕ) (ts : Tokens) (l : Line) → line_by key.Memory d ts ≡ Some l → Spelled key.Memory d ts l
unfolding r.line_by r.memory_line
memory_sound d ts l e =
    let s = line_sound (Then IsIdent TwoAtoms) (λ d. seq (ident_at d) (seq (atom_at d) (atom_at d))) ident_atoms (λ p. g.Simple (what.Memory p.0 p.1.0 p.1.1)) d ts l e in (
      subst (λ x. IsForm (Word (written key.Memory) ∷ ts) x) s.1 (then_elim IsIdent TwoAtoms
          (λ us. IsForm (Word (written key.Memory) ∷ us) (g.Simple (what.Memory s.0.0 s.0.1.0 s.0.1.1))) ts s.0 s.2
          (λ xs ys x y. then_elim IsAtom IsAtom (λ us. IsForm (Word (codes "memory") ∷ (xs ++ us)) (g.Simple (what.Memory s.0.0 s.0.1.0 s.0.1.1))) ys s.0.1 y
          (λ us vs k j. g.simple (g.memory_line x k j)))),
      s.3,
    )

pub for_found : (us vs : Tokens) (w : Text) (a b : Num) → IsName w → IsAtom us a → IsAtom vs b → Found key.For (Word w ∷ (us ++ vs)) (g.For w a b)
unfolding r.line_by r.for_line
for_found us vs w a b h k j d l = line_found (Then Named TwoAtoms) (λ d. seq r.name (seq (atom_at d) (atom_at d))) name_atoms (λ p. g.For p.0 p.1.0 p.1.1) (Word w ∷ (us ++ vs))
    (w, (a, b)) (Word w ∷ [], us ++ vs, refl, (refl, h), (us, vs, refl, k, j)) d 0 (omega arith)

pub for_sound : (d : ℕ) (ts : Tokens) (l : Line) → line_by key.For d ts ≡ Some l → Spelled key.For d ts l
unfolding r.line_by r.for_line
for_sound d ts l e =
    let s = line_sound (Then Named TwoAtoms) (λ d. seq r.name (seq (atom_at d) (atom_at d))) name_atoms (λ p. g.For p.0 p.1.0 p.1.1) d ts l e in (
      subst (λ x. IsForm (Word (written key.For) ∷ ts) x) s.1 (then_elim Named TwoAtoms (λ us. IsForm (Word (written key.For) ∷ us) (g.For s.0.0 s.0.1.0 s.0.1.1)) ts s.0 s.2
          (λ xs ys x y. subst (λ us. IsForm (Word (codes "for") ∷ (us ++ ys)) (g.For s.0.0 s.0.1.0 s.0.1.1)) (sym x.0)
          (then_elim IsAtom IsAtom (λ us. IsForm (Word (codes "for") ∷ Word s.0.0 ∷ us) (g.For s.0.0 s.0.1.0 s.0.1.1)) ys s.0.1 y (λ us vs k j. g.for_line s.0.0 x.1 k j)))),
      s.3,
    )

pub set_found : (us : Tokens) (w : Text) (v : BenchValue) → IsName w → IsValue us v → Found key.Set (Word w ∷ us) (g.Step (bench_step.Set w v))
unfolding r.line_by r.set_line
set_found us w v h k d l = line_found (Then Named IsValue) (λ d. seq r.name r.value_of) name_value (λ p. g.Step (bench_step.Set p.0 p.1)) (Word w ∷ us) (w, v)
    (Word w ∷ [], us, refl, (refl, h), k) d 0 (omega arith)

pub set_sound : (d : ℕ) (ts : Tokens) (l : Line) → line_by key.Set d ts ≡ Some l → Spelled key.Set d ts l
unfolding r.line_by r.set_line
set_sound d ts l e =
    let s = line_sound (Then Named IsValue) (λ d. seq r.name r.value_of) name_value (λ p. g.Step (bench_step.Set p.0 p.1)) d ts l e in (
      subst (λ x. IsForm (Word (written key.Set) ∷ ts) x) s.1 (then_elim Named IsValue (λ us. IsForm (Word (written key.Set) ∷ us) (g.Step (bench_step.Set s.0.0 s.0.1))) ts s.0 s.2
          (λ xs ys x y. subst (λ us. IsForm (Word (codes "set") ∷ (us ++ ys)) (g.Step (bench_step.Set s.0.0 s.0.1))) (sym x.0) (g.step (g.set s.0.0 x.1 y)))),
      s.3,
    )

pub circuit_found : (w : Text) (ps : List Text) → IsName w → AreNames ps → Found key.Circuit (Word w ∷ map Word ps) (g.Circuit w ps)
unfolding r.line_by r.circuit_line
circuit_found w ps h k d l = line_found (Then Named (AreItems Named)) (λ d. seq r.name (all_items past_end r.name)) names_last (λ p. g.Circuit p.0 p.1) (Word w ∷ map Word ps)
    (w, ps) (Word w ∷ [], map Word ps, refl, (refl, h), names_items ps (list_all-from_AllPass is_name ps k)) d 0 (omega arith)

pub circuit_sound : (d : ℕ) (ts : Tokens) (l : Line) → line_by key.Circuit d ts ≡ Some l → Spelled key.Circuit d ts l
unfolding r.line_by r.circuit_line
circuit_sound d ts l e =
    let s = line_sound (Then Named (AreItems Named)) (λ d. seq r.name (all_items past_end r.name)) names_last (λ p. g.Circuit p.0 p.1) d ts l e in (
      subst (λ x. IsForm (Word (written key.Circuit) ∷ ts) x) s.1
          (then_elim Named (AreItems Named) (λ us. IsForm (Word (written key.Circuit) ∷ us) (g.Circuit s.0.0 s.0.1)) ts s.0 s.2
          (λ xs ys x y. let n = items_names s.0.1 ys y in subst (λ us. IsForm (Word (codes "circuit") ∷ (us ++ ys)) (g.Circuit s.0.0 s.0.1)) (sym x.0)
          (subst (λ us. IsForm (Word (codes "circuit") ∷ Word s.0.0 ∷ us) (g.Circuit s.0.0 s.0.1)) (sym n.0) (g.circuit s.0.0 s.0.1 x.1 (AllPass-from_list_all is_name s.0.1 n.1))))),
      s.3,
    )

pub top_found : (us : Tokens) (w : Text) (ns : List Num) → IsName w → AreAtoms us ns → Found key.Top (Word w ∷ us) (g.Top w ns)
unfolding r.line_by r.top_line
top_found us w ns h k d l = line_found (Then Named (AreItems IsAtom)) (λ d. seq r.name (all_items past_end (atom_at d))) top_last (λ p. g.Top p.0 p.1) (Word w ∷ us) (w, ns)
    (Word w ∷ [], us, refl, (refl, h), atoms_items k) d 0 (omega arith)

pub top_sound : (d : ℕ) (ts : Tokens) (l : Line) → line_by key.Top d ts ≡ Some l → Spelled key.Top d ts l
unfolding r.line_by r.top_line
top_sound d ts l e =
    let s = line_sound (Then Named (AreItems IsAtom)) (λ d. seq r.name (all_items past_end (atom_at d))) top_last (λ p. g.Top p.0 p.1) d ts l e in (
      subst (λ x. IsForm (Word (written key.Top) ∷ ts) x) s.1 (then_elim Named (AreItems IsAtom) (λ us. IsForm (Word (written key.Top) ∷ us) (g.Top s.0.0 s.0.1)) ts s.0 s.2
          (λ xs ys x y. subst (λ us. IsForm (Word (codes "top") ∷ (us ++ ys)) (g.Top s.0.0 s.0.1)) (sym x.0) (g.top s.0.0 x.1 (items_atoms s.0.1 ys y)))),
      s.3,
    )

pub if_found : (us : Tokens) (n : Num) → IsNum us n → Found key.If us (g.If n)
unfolding r.line_by r.if_line
if_found us n h d l = line_found IsNum number_at num_last (λ n. g.If n) us n h d 0 (omega arith)

pub if_sound : (d : ℕ) (ts : Tokens) (l : Line) → line_by key.If d ts ≡ Some l → Spelled key.If d ts l
unfolding r.line_by r.if_line
if_sound d ts l e = let s = line_sound IsNum number_at num_last (λ n. g.If n) d ts l e in (subst (λ x. IsForm (Word (written key.If) ∷ ts) x) s.1 (g.if_line s.2), s.3)

unwrapped : (a b : Line) → Some a ≡ Some b → a ≡ b
unwrapped a b e = cc

bare_line : (k : Keyword) (a l : Line) (d : ℕ) (ts : Tokens) → IsForm (Word (written k) ∷ []) a → r.at_end a ts ≡ Some l → Spelled k d ts l
bare_line k a l d [] h e = (subst (λ x. IsForm (Word (written k) ∷ []) x) (unwrapped a l e) h, omega arith)
bare_line k a l d (t ∷ ts) h e = absurd cc

pub else_found : Found key.Else [] g.Else
unfolding r.line_by
else_found d l = refl

pub else_sound : (d : ℕ) (ts : Tokens) (l : Line) → line_by key.Else d ts ≡ Some l → Spelled key.Else d ts l
unfolding r.line_by
else_sound d ts l e = bare_line key.Else g.Else l d ts g.else_line e

pub end_found : Found key.End [] g.End
unfolding r.line_by
end_found d l = refl

pub end_sound : (d : ℕ) (ts : Tokens) (l : Line) → line_by key.End d ts ≡ Some l → Spelled key.End d ts l
unfolding r.line_by
end_sound d ts l e = bare_line key.End g.End l d ts g.end_line e

pub bench_found : Found key.Bench [] g.Bench
unfolding r.line_by
bench_found d l = refl

pub bench_sound : (d : ℕ) (ts : Tokens) (l : Line) → line_by key.Bench d ts ≡ Some l → Spelled key.Bench d ts l
unfolding r.line_by
bench_sound d ts l e = bare_line key.Bench g.Bench l d ts g.bench e

pub reset_found : Found key.Reset [] (g.Step bench_step.Reset)
unfolding r.line_by
reset_found d l = refl

pub reset_sound : (d : ℕ) (ts : Tokens) (l : Line) → line_by key.Reset d ts ≡ Some l → Spelled key.Reset d ts l
unfolding r.line_by
reset_sound d ts l e = bare_line key.Reset (g.Step bench_step.Reset) l d ts (g.step g.reset) e

pub cycle_found : Found key.Cycle [] (g.Step (bench_step.Cycle (pos 1)))
unfolding r.line_by
cycle_found d l = refl

pub cycles_found : (z : ℤ) → Found key.Cycle (Int z ∷ []) (g.Step (bench_step.Cycle z))
unfolding r.line_by
cycles_found z d l = refl

counted : (z : ℤ) (d : ℕ) (ts : Tokens) (l : Line) → r.at_end (g.Step (bench_step.Cycle z)) ts ≡ Some l → Spelled key.Cycle d (Int z ∷ ts) l
counted z d [] l e = (subst (λ x. IsForm (Word (written key.Cycle) ∷ Int z ∷ []) x) (unwrapped (g.Step (bench_step.Cycle z)) l e) (g.step (g.cycles z)), omega arith)
counted z d (t ∷ ts) l e = absurd cc

pub cycle_sound : (d : ℕ) (ts : Tokens) (l : Line) → line_by key.Cycle d ts ≡ Some l → Spelled key.Cycle d ts l
unfolding r.line_by
cycle_sound d [] l e = (subst (λ x. IsForm (Word (written key.Cycle) ∷ []) x) (unwrapped (g.Step (bench_step.Cycle (pos 1))) l e) (g.step g.cycle), omega arith)
cycle_sound d (Int z ∷ ts) l e = counted z d ts l e
cycle_sound d (Word z ∷ ts) l e = absurd cc
cycle_sound d (Sized z v ∷ ts) l e = absurd cc
cycle_sound d (Operator z ∷ ts) l e = absurd cc
cycle_sound d (Mark z ∷ ts) l e = absurd cc
