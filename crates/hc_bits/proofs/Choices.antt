-- The case that a mux takes, by its place.
use Rattle.std.proofs.Common.{◌≡◌, ℕ, zero, suc, ◌-◌, ◌≤◌, List, [], ◌∷◌, length, get_or, refl, arith, Some, sym, ap, ◌∙◌}
use Rattle.std.specs.Prelude.{min, slice_get}
use Rattle.std.proofs.lemmas.Option.{get_or_from_slice_get}
use Rattle.hc_bits.specs.BitVector.{BitVector, mux}

-- one case on
mux-suc : (w n : ℕ) (x y : BitVector) (more : List BitVector) → mux (record { width = w; value = suc n }) (x ∷ y ∷ more) ≡ mux (record { width = w; value = n }) (y ∷ more)
mux-suc w zero x y [] = refl
mux-suc w (suc n) x y [] = refl
mux-suc w n x y (z ∷ more) = refl

mux_place : (w n : ℕ) (cases : List BitVector) → 1 ≤ length cases → slice_get cases (min n (length cases - 1)) ≡ Some (mux (record { width = w; value = n }) cases)
mux_place w n [] some = absurd (omega arith)
mux_place w n (x ∷ []) some =
    let first : min n 0 ≡ 0 = omega arith in
    rw first refl
mux_place w zero (x ∷ y ∷ more) some =
    let first : min 0 (suc (suc (length more)) - 1) ≡ 0 = omega arith in
    rw first refl
mux_place w (suc n) (x ∷ y ∷ more) some =
    let next : min (suc n) (suc (suc (length more)) - 1) ≡ suc (min n (suc (length more) - 1)) = omega arith in
    let rest : slice_get (y ∷ more) (min n (suc (length more) - 1)) ≡ Some (mux (record { width = w; value = n }) (y ∷ more)) = mux_place w n (y ∷ more) (omega arith) in
    rw next (rest ∙ ap Some (sym (mux-suc w n x y more)))

-- what reading that place gives
pub mux_read : (w n : ℕ) (cases : List BitVector) (r : BitVector) → 1 ≤ length cases → r ≡ get_or cases (min n (length cases - 1)) r → r ≡ mux (record { width = w; value = n }) cases
mux_read w n cases r some read =
    let place : ℕ = min n (length cases - 1) in
    read ∙ get_or_from_slice_get cases place (mux (record { width = w; value = n }) cases) r (mux_place w n cases some)
