-- Lists at a place.
use Rattle.std.proofs.Common.{◌≡◌, ℕ, zero, suc, ◌+◌, ◌≤◌, List, [], ◌∷◌, drop, length, refl, ap, ap₂, ◌∙◌, arith}
use Rattle.std.specs.Prelude.{slice_get, Option, Some}
use Rattle.std.specs.List.{zip}

-- what is left of a list at a place
pub drop_at : {X : Type 0} (xs : List X) (k : ℕ) (x : X) → slice_get xs k ≡ Some x → drop k xs ≡ x ∷ drop (k + 1) xs
drop_at [] k x e = absurd (cc)
drop_at (y ∷ xs) zero x e = let same : y ≡ x = cc in ap (λ z. z ∷ xs) same
drop_at (y ∷ xs) (suc k) x e = drop_at xs k x e ∙ ap (λ n. x ∷ drop n (y ∷ xs)) (let e1 : suc (k + 1) ≡ suc k + 1 = omega arith in e1)

pub drop_all : {X : Type 0} (xs : List X) (k : ℕ) → length xs ≤ k → drop k xs ≡ []
drop_all [] zero le = refl
drop_all [] (suc k) le = refl
drop_all (x ∷ xs) zero le = absurd (omega (arith, le))
drop_all (x ∷ xs) (suc k) le = drop_all xs k (omega (arith, le))

pub get_zipped : {X Y : Type 0} (xs : List X) (ys : List Y) (k : ℕ) (x : X) (y : Y) → slice_get xs k ≡ Some x → slice_get ys k ≡ Some y → slice_get (zip xs ys) k ≡ Some (x, y)
get_zipped [] ys k x y e f = absurd (cc)
get_zipped (a ∷ xs) [] k x y e f = absurd (cc)
get_zipped {X} {Y} (a ∷ xs) (b ∷ ys) zero x y e f = let s : a ≡ x = cc in let t : b ≡ y = cc in ap₂ {C = Option (X × Y)} (λ p q. Some (p, q)) s t
get_zipped (a ∷ xs) (b ∷ ys) (suc k) x y e f = get_zipped xs ys k x y e f
