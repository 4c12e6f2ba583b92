-- Numbers of rows, one row more at a time.
use Rattle.std.proofs.Common.{◌≡◌, ℕ, zero, suc, ◌+◌, ◌<◌, List, [], ◌∷◌, ◌++◌, length, take, refl, ◌∙◌, ap, subst, arith}
use Rattle.std.specs.Prelude.{slice_get, get_or, Some}
use Rattle.std.proofs.lemmas.Option.{slice_get_read}
use Rattle.hc_signal.specs.declared.signal.NodeRow.{NodeRow}
use Rattle.hc_signal.specs.Graph.{Graph}
use Rattle.hc_signal.specs.Tree.{Tree}
use Rattle.hc_canon.specs.Numbering.{count_from}
use Rattle.hc_dbstate.proofs.Triples.{some_once}
use Rattle.hc_flatten.specs.declared.place.Place.{Place}
use Rattle.hc_flatten.specs.Flattened.{number_of, numbers_from}

pub count_more : (n a : ℕ) → count_from a (suc n) ≡ count_from a n ++ (a + n) ∷ []
count_more zero a = ap (λ k. k ∷ []) (let e : a ≡ a + zero = omega arith in e)
count_more (suc n) a = ap (λ l. a ∷ l) (count_more n (suc a) ∙ (let e : suc a + n ≡ a + suc n = omega arith in ap (λ k. count_from (suc a) n ++ k ∷ []) e))

pub numbers_more : (p : Place) (g : Graph) (kids : ℕ → Tree) (rows : List NodeRow) (a k : ℕ) (row : NodeRow) → slice_get rows k ≡ Some row
    → numbers_from p g kids a (take (suc k) rows) ≡ numbers_from p g kids a (take k rows) ++ number_of p g kids (a + k) row.node ∷ []
numbers_more p g kids [] a k row e = cc
numbers_more p g kids (x ∷ rows) a zero row e =
    (let q : a ≡ a + zero = omega arith in ap (λ n. number_of p g kids n x.node ∷ []) q) ∙ ap (λ (y : NodeRow). number_of p g kids (a + zero) y.node ∷ []) (some_once e)
numbers_more p g kids (x ∷ rows) a (suc k) row e =
    ap (λ l. number_of p g kids a x.node ∷ l) (numbers_more p g kids rows (suc a) k row e
    ∙ (let q : suc a + k ≡ a + suc k = omega arith in ap (λ n. numbers_from p g kids (suc a) (take k rows) ++ number_of p g kids n row.node ∷ []) q))

-- the element that a loop is at
pub item_at : {X : Type 0} (xs ys : List X) (i : ℕ) (x : X) → ys ≡ xs → i < length ys → x ≡ get_or ys i x → slice_get xs i ≡ Some x
item_at xs ys i x q b e = subst (λ l. slice_get l i ≡ Some x) q (slice_get_read ys (length ys) i x refl b e)

pub count_next : (n a : ℕ) → count_from a (n + 1) ≡ count_from a n ++ (a + n) ∷ []
count_next n a = (let e : n + 1 ≡ suc n = omega arith in ap (count_from a) e) ∙ count_more n a

pub numbers_next : (p : Place) (g : Graph) (kids : ℕ → Tree) (rows : List NodeRow) (k : ℕ) (row : NodeRow) → slice_get rows k ≡ Some row
    → numbers_from p g kids 0 (take (k + 1) rows) ≡ numbers_from p g kids 0 (take k rows) ++ number_of p g kids k row.node ∷ []
numbers_next p g kids rows k row e =
    (let q : k + 1 ≡ suc k = omega arith in ap (λ n. numbers_from p g kids 0 (take n rows)) q)
    ∙ numbers_more p g kids rows 0 k row e
    ∙ (let q : 0 + k ≡ k = omega arith in ap (λ n. numbers_from p g kids 0 (take k rows) ++ number_of p g kids n row.node ∷ []) q)
