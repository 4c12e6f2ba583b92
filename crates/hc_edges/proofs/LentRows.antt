-- A row that was lent, and the others.
use Rattle.std.proofs.Common.{◌≡◌, ℕ, zero, suc, List, [], ◌∷◌, length, map, slice_set, refl, sym, ap, subst, ◌∙◌, arith}
use Rattle.std.proofs.lemmas.List.{length-map}
use Rattle.hc_rows.specs.Rows.{row_at}
use Rattle.hc_rows.specs.Lends.{with_row}
use Rattle.hc_rows.proofs.Lent.{with_own}
use Rattle.hc_store.proofs.Widths.{row_set_other}

-- as long as a list that is measured alike
pub as_long : {X Y : Type 0} (f : X → Y) (xs ys : List X) → map f xs ≡ map f ys → length xs ≡ length ys
as_long f xs ys e = sym (length-map xs f) ∙ ap length e ∙ length-map ys f

set_row : {X : Type 0} (rows : List (List X)) (r : ℕ) (ws : List X) → length ws ≡ length (row_at rows r) → row_at (slice_set rows r ws) r ≡ ws
set_row [] r [] e = refl
set_row [] r (w ∷ ws) e = absurd (omega (arith, e))
set_row (row ∷ rows) zero ws e = refl
set_row (row ∷ rows) (suc r) ws e = set_row rows r ws e

pub lent_here : {X : Type 0} (rows : List (List X)) (r : ℕ) (ws : List X) → length ws ≡ length (row_at rows r) → row_at (with_row rows r ws) r ≡ ws
lent_here rows r ws e = ap (λ it. row_at it r) (with_own rows r ws e) ∙ set_row rows r ws e

pub lent_other : {X : Type 0} (rows : List (List X)) (r q : ℕ) (ws : List X) → length ws ≡ length (row_at rows r) → ¬ (r ≡ q) → row_at (with_row rows r ws) q ≡ row_at rows q
lent_other rows r q ws e n = ap (λ it. row_at it q) (with_own rows r ws e) ∙ row_set_other rows r q ws n

-- what was so of the row that was lent, before and after, is so of the rows
pub lent_both : {X : Type 0} (P : List X → List X → Type 0) (rows : List (List X)) (r : ℕ) (lent ws : List X) → lent ≡ row_at rows r → length ws ≡ length (row_at rows r) → P lent ws → P (row_at rows r) (row_at (with_row rows r ws) r)
lent_both P rows r lent ws is e h = subst (λ z. P z (row_at (with_row rows r ws) r)) is (subst (λ z. P lent z) (sym (lent_here rows r ws e)) h)
