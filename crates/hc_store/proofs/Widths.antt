-- Rows as wide as their nodes.
use Rattle.std.proofs.Common.{◌≡◌, ◌≢◌, ℕ, zero, suc, ◌<◌, List, [], ◌∷◌, length, refl, sym, ap, arith}
use Rattle.std.specs.Prelude.{Some, slice_get, slice_set}
use Rattle.std.proofs.lemmas.Option.{slice_get_within}
use Rattle.hc_bits.specs.BitVector.{BitVector}
use Rattle.hc_signal.specs.declared.signal.NodeRow.{NodeRow}
use Rattle.hc_rows.specs.Rows.{row_at}
use Rattle.hc_values.specs.Rows.{widths, node_widths}

pub same_width : (xs : List BitVector) (rows : List NodeRow) (n : ℕ) (y : BitVector) (row : NodeRow) → widths xs ≡ node_widths rows → slice_get xs n ≡ Some y
    → slice_get rows n ≡ Some row → y.width ≡ row.width
same_width [] rows n y row e a b = absurd cc
same_width (x ∷ xs) [] n y row e a b = absurd cc
same_width (x ∷ xs) (r ∷ rows) zero y row e a b = cc
same_width (x ∷ xs) (r ∷ rows) (suc n) y row e a b = same_width xs rows n y row (cc) a b

pub as_many : (xs : List BitVector) (rows : List NodeRow) → widths xs ≡ node_widths rows → length xs ≡ length rows
as_many [] [] e = refl
as_many [] (r ∷ rows) e = absurd cc
as_many (x ∷ xs) [] e = absurd cc
as_many (x ∷ xs) (r ∷ rows) e = ap suc (as_many xs rows (cc))

pub there : (xs : List BitVector) (rows : List NodeRow) (n : ℕ) (row : NodeRow) → widths xs ≡ node_widths rows → slice_get rows n ≡ Some row → n < length xs
there xs rows n row e b = let m = as_many xs rows e in let w = slice_get_within rows n row b in omega (arith, m, w)

pub widths_set : (xs : List BitVector) (n : ℕ) (x : BitVector) → ((y : BitVector) → slice_get xs n ≡ Some y → y.width ≡ x.width) → widths (slice_set xs n x) ≡ widths xs
widths_set [] n x e = refl
widths_set (y ∷ xs) zero x e = ap (λ (w : ℕ). w ∷ widths xs) (sym (e y refl))
widths_set (y ∷ xs) (suc n) x e = ap (λ (ws : List ℕ). y.width ∷ ws) (widths_set xs n x e)

-- ---- one row of many

pub row_set_here : {X : Type 0} (rows : List (List X)) (p : ℕ) (r : List X) → p < length rows → row_at (slice_set rows p r) p ≡ r
row_set_here [] p r h = absurd (omega (arith, h))
row_set_here (x ∷ rows) zero r h = refl
row_set_here (x ∷ rows) (suc p) r h = row_set_here rows p r (omega (arith, h))

pub row_set_other : {X : Type 0} (rows : List (List X)) (p q : ℕ) (r : List X) → p ≢ q → row_at (slice_set rows p r) q ≡ row_at rows q
row_set_other [] p q r n = refl
row_set_other (x ∷ rows) zero zero r n = absurd (n refl)
row_set_other (x ∷ rows) zero (suc q) r n = refl
row_set_other (x ∷ rows) (suc p) zero r n = refl
row_set_other (x ∷ rows) (suc p) (suc q) r n = row_set_other rows p q r (λ e. n (ap suc e))

pub row_there : {X : Type 0} (rows : List (List X)) (p n : ℕ) → n < length (row_at rows p) → p < length rows
row_there [] p n h = absurd (omega (arith, h))
row_there (x ∷ rows) zero n h = omega arith
row_there (x ∷ rows) (suc p) n h = let i = row_there rows p n h in omega (arith, i)
