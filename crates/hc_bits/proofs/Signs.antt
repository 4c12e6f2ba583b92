-- Two's complement numbers of any width, in 128 bits.
use Rattle.std.proofs.Common.{◌≡◌, ℕ, suc, ◌+◌, ◌-◌, ◌*◌, ◌/◌, ◌%◌, ◌^◌, ◌≤◌, ◌<◌, inl, inr, arith, ap, ap₂, ◌∙◌, refl}
use Rattle.std.specs.Prelude.{◌⊎◌, ℤ, pos, negsuc, ◌*ℤ◌, nat_abs, unsigned_abs, FitsSigned}
use Rattle.std.specs.Int.{w128, cast_signed, cast_unsigned, int_shr, int_rem_euclid}
use Rattle.std.proofs.lemmas.Int.{ints, to_z-of_z, of_z-to_z, fits_signed_mul, to_z_pos}
use Rattle.std.proofs.lemmas.Bool.{cases_lt}
use Rattle.std.proofs.lemmas.Nat.{pow_pos, pow-add, pow_below, shl_whole, shl_below, mod_below, div-mul-add}
use Rattle.std.proofs.Math.Nat.{pow-suc, add-mul, mul_comm, mul-le-mul_right}
use Rattle.std.proofs.Math.Pow.{shl-shr, pow_mono}
use Rattle.hc_bits.specs.BitVector.{BitVector, IsBitVector, signed, muls}
use Rattle.hc_bits.proofs.Masks.{whole, low_of_not}

half : (w : ℕ) → 1 ≤ w → 2 ^ w ≡ 2 ^ (w - 1) + 2 ^ (w - 1)
half w some =
    let next : w ≡ suc (w - 1) = omega arith in
    let twice : 2 ^ suc (w - 1) ≡ 2 ^ (w - 1) + 2 ^ (w - 1) = omega (arith, pow-suc 2 (w - 1)) in
    ap (λ (k : ℕ). 2 ^ k) next ∙ twice

-- the two halves of the patterns
abbrev pub SignedCases : BitVector → Type 0
SignedCases x = ((x.value < 2 ^ (x.width - 1)) × (signed x ≡ pos x.value)) ⊎ ((2 ^ (x.width - 1) ≤ x.value) × (signed x ≡ negsuc (2 ^ x.width - 1 - x.value)))

pub signed_cases : (x : BitVector) → IsBitVector x → SignedCases x
signed_cases x is =
    elim (cases_lt x.value (2 ^ (x.width - 1))) [
      | inl below ↦ inl (below, low x below)
      | inr above ↦ inr (above, high x is.fits above)
    ]
  where
    low : (x : BitVector) → x.value < 2 ^ (x.width - 1) → signed x ≡ pos x.value
    low x below = grind arith

    high : (x : BitVector) → x.value < 2 ^ x.width → 2 ^ (x.width - 1) ≤ x.value → signed x ≡ negsuc (2 ^ x.width - 1 - x.value)
    high x fits above = grind (arith, ints)

pub signed_within : (x : BitVector) → IsBitVector x → unsigned_abs (signed x) ≤ 2 ^ (x.width - 1)
signed_within x is =
    elim (signed_cases x is) [
      | inl p ↦ rw p.1 (omega arith)
      | inr p ↦ rw p.1 (omega (arith, half x.width is.some, is.fits))
    ]

pub signed_fits : (x : BitVector) → IsBitVector x → FitsSigned w128 (signed x)
signed_fits x is =
    let short : x.width - 1 ≤ 127 = omega (arith, is.few) in
    let within : 2 ^ (x.width - 1) ≤ 2 ^ 127 = pow_mono short in
    elim (signed_cases x is) [
      | inl p ↦ rw p.1 (record { sfits = omega arith })
      | inr p ↦ rw p.1 (record { sfits = omega (arith, half x.width is.some, is.fits) })
    ]

-- the high part of what is left of a * k - 1
complement-div : (a k v : ℕ) → v < a → 1 ≤ k → (a * k - suc (v * k)) / k ≡ a - 1 - v
complement-div a k v below some =
    let parts : a ≡ (a - 1 - v) + (v + 1) = omega arith in
    let product : a * k ≡ (a - 1 - v) * k + (v * k + 1 * k) = ap (λ (x : ℕ). x * k) parts ∙ add-mul (a - 1 - v) (v + 1) k ∙ ap (λ (x : ℕ). (a - 1 - v) * k + x) (add-mul v 1 k) in
    let split : a * k - suc (v * k) ≡ (a - 1 - v) * k + (k - 1) = omega arith in
    rw split (div-mul-add (a - 1 - v) k (k - 1) (omega arith))

-- a pattern with its sign bit in the top of 128 bits
to_z_high : (n : ℕ) → 2 ^ 127 ≤ n → cast_signed w128 n ≡ negsuc (2 ^ 128 - suc n)
to_z_high n above = grind arith

-- the shift down copies the sign
shifted_back : (x : BitVector) → IsBitVector x → int_shr (cast_signed w128 (x.value * 2 ^ (128 - x.width))) (128 - x.width) ≡ signed x
shifted_back x is =
    let w = x.width in
    let v = x.value in
    let unused : ℕ = 128 - w in
    let sum : (w - 1) + unused ≡ 127 = omega (arith, is.some, is.few) in
    let top : 2 ^ ((w - 1) + unused) ≡ 2 ^ 127 = ap (λ (k : ℕ). 2 ^ k) sum in
    elim (signed_cases x is) [
      | inl p ↦
          let below : v * 2 ^ unused < 2 ^ 127 = omega (arith, shl_below v (w - 1) unused p.0, top) in
          rw (to_z_pos w128 (v * 2 ^ unused) below, p.1) (ap pos (shl-shr v unused))
      | inr p ↦
          let least : 2 ^ (w - 1) * 2 ^ unused ≤ v * 2 ^ unused = mul-le-mul_right (2 ^ unused) p.0 in
          let above : 2 ^ 127 ≤ v * 2 ^ unused = omega (arith, least, top, pow-add 2 (w - 1) unused) in
          let all : 2 ^ 128 ≡ 2 ^ w * 2 ^ unused = whole w is.few ∙ mul_comm (2 ^ unused) (2 ^ w) in
          let high : (2 ^ 128 - suc (v * 2 ^ unused)) / 2 ^ unused ≡ 2 ^ w - 1 - v = ap (λ (k : ℕ). (k - suc (v * 2 ^ unused)) / 2 ^ unused) all ∙ complement-div (2 ^ w) (2 ^ unused) v is.fits (pow_pos unused) in
          rw (to_z_high (v * 2 ^ unused) above, p.1) (ap negsuc high)
    ]

-- the shift up and back
pub sign_extended : (x : BitVector) → IsBitVector x → (s : ℤ) → s ≡ cast_signed w128 (x.value * 2 ^ (128 - x.width) % 2 ^ 128) → cast_signed w128 (cast_unsigned w128 (int_shr (cast_signed w128 (cast_unsigned w128 s)) (128 - x.width))) ≡ signed x
sign_extended x is s e =
    let n : ℕ = x.value * 2 ^ (128 - x.width) in
    let up : n % 2 ^ 128 ≡ n = shl_whole x.value x.width (128 - x.width) 128 is.fits (omega (arith, is.few)) in
    let fits : n < 2 ^ 128 = omega (arith, mod_below n (2 ^ 128) (pow_pos 128)) in
    let bits : cast_unsigned w128 s ≡ n = ap (cast_unsigned w128) (e ∙ ap (cast_signed w128) up) ∙ of_z-to_z w128 n fits in
    rw (bits, shifted_back x is) (to_z-of_z w128 (signed x) (signed_fits x is))

-- the product of both numbers fits
product_fits_signed : (x y : BitVector) → IsBitVector x → IsBitVector y → x.width + y.width ≤ 128 → FitsSigned w128 (signed x *ℤ signed y)
product_fits_signed x y is_x is_y few =
    let small : 2 ^ ((x.width - 1) + (y.width - 1)) < 2 ^ 127 = pow_below _ 127 (omega (arith, is_x.some, is_y.some)) in
    let product : 2 ^ (x.width - 1) * 2 ^ (y.width - 1) < 2 ^ 127 = rw (← pow-add 2 (x.width - 1) (y.width - 1)) small in
    fits_signed_mul w128 (signed x) (signed y) (2 ^ (x.width - 1)) (2 ^ (y.width - 1)) (signed_within x is_x) (signed_within y is_y) product

-- the low bits of a number in 128 bits
low_of_signed : (z : ℤ) (k : ℕ) → FitsSigned w128 z → k ≤ 128 → cast_unsigned w128 z % 2 ^ k ≡ nat_abs (int_rem_euclid z (pos (2 ^ k)))
low_of_signed (pos n) k fits few = refl
low_of_signed (negsuc n) k fits few =
    let within : n < 2 ^ 127 = fits.sfits in
    let same : 2 ^ 128 - suc n ≡ 2 ^ 128 - 1 - n = omega arith in
    rw same (low_of_not n k (omega arith) few)

-- a number as the code keeps it, by its bits
abbrev pub kept : ℤ → ℤ
kept z = cast_signed w128 (cast_unsigned w128 z)

-- the code's product
kept_product : (x y : BitVector) → IsBitVector x → IsBitVector y → (s t : ℤ) → s ≡ signed x → t ≡ signed y → kept s *ℤ kept t ≡ signed x *ℤ signed y
kept_product x y is_x is_y s t e f =
    ap₂ ◌*ℤ◌ (ap kept e ∙ to_z-of_z w128 (signed x) (signed_fits x is_x)) (ap kept f ∙ to_z-of_z w128 (signed y) (signed_fits y is_y))

pub kept_product_fits : (x y : BitVector) → IsBitVector x → IsBitVector y → x.width + y.width ≤ 128 → (s t : ℤ) → s ≡ signed x → t ≡ signed y → FitsSigned w128 (kept s *ℤ kept t)
kept_product_fits x y is_x is_y few s t e f =
    rw (kept_product x y is_x is_y s t e f) (product_fits_signed x y is_x is_y few)

pub kept_product_is : (x y : BitVector) → IsBitVector x → IsBitVector y → x.width + y.width ≤ 128 → (s t : ℤ) → s ≡ signed x → t ≡ signed y → cast_unsigned w128 (kept (kept s *ℤ kept t)) % 2 ^ (x.width + y.width) ≡ (muls x y).value
kept_product_is x y is_x is_y few s t e f =
    let fits : FitsSigned w128 (signed x *ℤ signed y) = product_fits_signed x y is_x is_y few in
    rw (kept_product x y is_x is_y s t e f, to_z-of_z w128 (signed x *ℤ signed y) fits) (low_of_signed (signed x *ℤ signed y) (x.width + y.width) fits few)
