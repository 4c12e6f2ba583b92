-- Circuits whose names came before: only which names were seen counts.
use Rattle.std.proofs.Common.{◌≡◌, ℕ, suc, ◌+◌, ◌<◌, Bool, true, false, not, cond, ◌||◌, List, [], ◌∷◌, ◌++◌, map, length, drop, get_or, Option, Some, refl, sym, ◌∙◌, ap, Bor, add-one}
use Rattle.std.proofs.Math.Seq.{drop-cons}
use Rattle.hc_tokens.specs.Tokens.{same_bytes}
use Rattle.hc_lines.specs.Grammar.{Text}
use Rattle.hc_lines.specs.declared.line.Line.{Line}
use Rattle.hc_lines.specs.declared.line.Line.TheVariants as g
use Rattle.hc_lang.specs.Reads.{Row, repeats, circuit_name, first_repeated}
use Rattle.hc_lang.proofs.Distinct.{is_among, text_at, has, has-among, seen_next}

one_row : (s t : List Text) (l : Line) → ((w : Text) → is_among w s ≡ is_among w t) → (repeats s l ≡ repeats t l) × ((w : Text) → is_among w (circuit_name l ++ s) ≡ is_among w (circuit_name l ++ t))
one_row s t (g.Circuit w ps) h = (h w, λ v. ap (λ b. same_bytes v w || b) (h v))
one_row s t (g.Port i w width) h = (refl, h)
one_row s t (g.Simple w) h = (refl, h)
one_row s t (g.For v a b) h = (refl, h)
one_row s t (g.If c) h = (refl, h)
one_row s t g.Else h = (refl, h)
one_row s t g.End h = (refl, h)
one_row s t (g.Top w args) h = (refl, h)
one_row s t g.Bench h = (refl, h)
one_row s t (g.Step w) h = (refl, h)

same_repeated : (s t : List Text) (rows : List Row) → ((w : Text) → is_among w s ≡ is_among w t) → first_repeated s rows ≡ first_repeated t rows
same_repeated s t [] h = refl
same_repeated s t (x ∷ rows) h =
    let one = one_row s t x.1 h in
    ap (λ b. cond b (Some x.0) (first_repeated (circuit_name x.1 ++ s) rows)) one.0
    ∙ ap (λ o. cond (repeats t x.1) (Some x.0) o) (same_repeated (circuit_name x.1 ++ s) (circuit_name x.1 ++ t) rows one.1)

left : (rows : List Row) (i : ℕ) (x : Row) → i < length rows → x ≡ get_or rows i x → drop i rows ≡ x ∷ drop (i + 1) rows
left rows i x h is = drop-cons rows i x h ∙ ap (λ y. y ∷ drop (suc i) rows) (sym is) ∙ ap (λ k. x ∷ drop k rows) (sym (add-one i))

at_circuit : (s : List Text) (n : ℕ) (l : Line) (w : Text) (ps : List Text) (rest : List Row) → l ≡ g.Circuit w ps
    → first_repeated s ((n, l) ∷ rest) ≡ cond (is_among w s) (Some n) (first_repeated (w ∷ s) rest)
at_circuit s n l w ps rest e = ap (λ l. first_repeated s ((n, l) ∷ rest)) e

-- a circuit whose name was seen
pub found_again : (keys : List (Bor Text)) (rows : List Row) (i : ℕ) (x : Row) (w : Text) (ps : List Text) (b : Bor Text) (added : Bool) (all : Option ℕ)
    → i < length rows → x ≡ get_or rows i x → x.1 ≡ g.Circuit w ps → b.now ≡ w → first_repeated (map text_at keys) (drop i rows) ≡ all → added ≡ not (has keys b.now)
    → added ≡ false → Some x.0 ≡ all
found_again keys rows i x w ps b added all h is line name so_far new none =
    sym (ap (λ t. cond t (Some x.0) (first_repeated (w ∷ map text_at keys) (drop (i + 1) rows))) seen)
    ∙ sym (at_circuit (map text_at keys) x.0 x.1 w ps (drop (i + 1) rows) line)
    ∙ sym (ap (first_repeated (map text_at keys)) (left rows i x h is))
    ∙ so_far
  where
    not_false : (t : Bool) → not t ≡ false → t ≡ true
    not_false true e = refl
    not_false false e = absurd cc

    seen : is_among w (map text_at keys) ≡ true
    seen = sym (has-among keys w) ∙ ap (has keys) (sym name) ∙ not_false (has keys b.now) (sym new ∙ none)

-- one that was not
pub found_first : (keys more : List (Bor Text)) (rows : List Row) (i : ℕ) (x : Row) (w : Text) (ps : List Text) (b : Bor Text) (added : Bool) (all : Option ℕ)
    → i < length rows → x ≡ get_or rows i x → x.1 ≡ g.Circuit w ps → b.now ≡ w → first_repeated (map text_at keys) (drop i rows) ≡ all → added ≡ not (has keys b.now)
    → added ≡ true → ((q : Bor Text) → has more q.now ≡ cond (same_bytes b.now q.now) true (has keys q.now)) → first_repeated (map text_at more) (drop (i + 1) rows) ≡ all
found_first keys more rows i x w ps b added all h is line name so_far new one update =
    sym (same_repeated (b.now ∷ map text_at keys) (map text_at more) (drop (i + 1) rows) (seen_next keys keys more b update))
    ∙ ap (λ v. first_repeated (v ∷ map text_at keys) (drop (i + 1) rows)) name
    ∙ sym (ap (λ t. cond t (Some x.0) (first_repeated (w ∷ map text_at keys) (drop (i + 1) rows))) unseen)
    ∙ sym (at_circuit (map text_at keys) x.0 x.1 w ps (drop (i + 1) rows) line)
    ∙ sym (ap (first_repeated (map text_at keys)) (left rows i x h is))
    ∙ so_far
  where
    not_true : (t : Bool) → not t ≡ true → t ≡ false
    not_true true e = absurd cc
    not_true false e = refl

    unseen : is_among w (map text_at keys) ≡ false
    unseen = sym (has-among keys w) ∙ ap (has keys) (sym name) ∙ not_true (has keys b.now) (sym new ∙ one)

no_circuit : (s : List Text) (n : ℕ) (l : Line) (rest : List Row) → ((w : Text) (ps : List Text) → l ≡ g.Circuit w ps → ⊥) → first_repeated s ((n, l) ∷ rest) ≡ first_repeated s rest
no_circuit s n (g.Circuit w ps) rest h = absurd (h w ps refl)
no_circuit s n (g.Port i w width) rest h = refl
no_circuit s n (g.Simple w) rest h = refl
no_circuit s n (g.For v a b) rest h = refl
no_circuit s n (g.If c) rest h = refl
no_circuit s n g.Else rest h = refl
no_circuit s n g.End rest h = refl
no_circuit s n (g.Top w args) rest h = refl
no_circuit s n g.Bench rest h = refl
no_circuit s n (g.Step w) rest h = refl

-- another line
pub found_other : (keys : List (Bor Text)) (rows : List Row) (i : ℕ) (x : Row) (all : Option ℕ) → i < length rows → x ≡ get_or rows i x
    → ((w : Text) (ps : List Text) → x.1 ≡ g.Circuit w ps → ⊥) → first_repeated (map text_at keys) (drop i rows) ≡ all
    → first_repeated (map text_at keys) (drop (i + 1) rows) ≡ all
found_other keys rows i x all h is other so_far =
    sym (no_circuit (map text_at keys) x.0 x.1 (drop (i + 1) rows) other) ∙ sym (ap (first_repeated (map text_at keys)) (left rows i x h is)) ∙ so_far
