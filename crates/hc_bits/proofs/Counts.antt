-- The operations of the catalogue on one argument, by what the code counts in 128 bits.
use Rattle.std.proofs.Common.{◌≡◌, ℕ, zero, suc, ◌+◌, ◌-◌, ◌*◌, ◌/◌, ◌%◌, ◌^◌, ◌≤◌, ◌<◌, arith, refl, ap, ◌∙◌}
use Rattle.std.specs.Int.Count.{ones, ones_step, count_leading_zeros}
use Rattle.std.specs.Int.{reverse_bits_onto}
use Rattle.std.proofs.lemmas.Nat.{pow-add, shl-shr, leading_length, leading_le, ones-le}
use Rattle.std.proofs.Math.Pow.{pow_mono}
use Rattle.std.proofs.Math.Nat.{pow-suc, add-mul, mul_assoc, mul-le-mul_right}
use Rattle.hc_bits.specs.Catalogue.{popcount, leading_zeros, reversed, bits_of}
use Rattle.hc_bits.proofs.Lengths.{IsLength, leading_zeros-length, length_least}

half_below : (n w : ℕ) → n < 2 ^ suc w → n / 2 < 2 ^ w
half_below n w below = omega (arith, pow-suc 2 w)

-- ---- ones

-- a number of w bits has its ones there
pub popcount_is : (w n : ℕ) → n < 2 ^ w → popcount w n ≡ ones n
unfolding ones
popcount_is zero zero below = refl
popcount_is zero (suc n) below = absurd (omega arith)
popcount_is (suc w) n below = omega (arith, ones_step n, popcount_is w (n / 2) (half_below n w below))

pub ones_within : (w n : ℕ) → n < 2 ^ w → ones n ≤ w
ones_within w n below = ones-le w n below

-- ---- zeros above the highest one

-- a number's length among 128 bits
length_in : (n : ℕ) → n < 2 ^ 128 → IsLength n (128 - count_leading_zeros 128 n)
length_in n below =
    let p = leading_length 128 n below in
    let same : p.0 ≡ 128 - count_leading_zeros 128 n = omega (arith, p.1) in
    rw (← same) (record { fits = p.2; tight = p.3 })

below_whole : (w n : ℕ) → n < 2 ^ w → w ≤ 128 → n < 2 ^ 128
below_whole w n below few =
    let most : 2 ^ w ≤ 2 ^ 128 = pow_mono few in
    omega arith

pub unused_zeros : (w n : ℕ) → n < 2 ^ w → w ≤ 128 → 128 - w ≤ count_leading_zeros 128 n
unused_zeros w n below few =
    let short : 128 - count_leading_zeros 128 n ≤ w = length_least n _ w (length_in n (below_whole w n below few)) below in
    omega arith

pub leading_zeros_is : (w n : ℕ) → n < 2 ^ w → w ≤ 128 → leading_zeros w n ≡ count_leading_zeros 128 n - (128 - w)
leading_zeros_is w n below few =
    let all : leading_zeros w n + (128 - count_leading_zeros 128 n) ≡ w = leading_zeros-length w n _ (length_in n (below_whole w n below few)) (omega (arith, unused_zeros w n below few)) in
    omega (arith, unused_zeros w n below few, leading_le 128 n)

pub zeros_within : (w n : ℕ) → n < 2 ^ w → w ≤ 128 → count_leading_zeros 128 n - (128 - w) ≤ w
zeros_within w n below few = omega (arith, leading_le 128 n)

-- the width of a count is a width
pub count_width : (w : ℕ) → w ≤ 128 → bits_of w ≤ 128
count_width w few = omega arith

-- ---- the other order

-- the code's reversal puts each bit after those before
onto_is : (k n a : ℕ) → reverse_bits_onto k n a ≡ a * 2 ^ k + reversed k n
unfolding reverse_bits_onto
onto_is zero n a = omega arith
onto_is (suc k) n a =
    let twice : 2 * 2 ^ k ≡ 2 ^ suc k = omega (arith, pow-suc 2 k) in
    onto_is k (n / 2) (a * 2 + n % 2) ∙ rw (add-mul (a * 2) (n % 2) (2 ^ k), mul_assoc a 2 (2 ^ k), twice) (omega arith)

reversed-zero : (k : ℕ) → reversed k 0 ≡ 0
reversed-zero zero = refl
reversed-zero (suc k) = omega (arith, reversed-zero k)

-- the unused bits of a reversal are its lowest
reversed-add : (w k n : ℕ) → n < 2 ^ w → reversed (w + k) n ≡ reversed w n * 2 ^ k
reversed-add zero k zero below =
    let same : 0 + k ≡ k = omega arith in
    rw same (omega (arith, reversed-zero k))
reversed-add zero k (suc n) below = absurd (omega arith)
reversed-add (suc w) k n below =
    let next : suc w + k ≡ suc (w + k) = omega arith in
    let rest : reversed (w + k) (n / 2) ≡ reversed w (n / 2) * 2 ^ k = reversed-add w k (n / 2) (half_below n w below) in
    rw (next, pow-add 2 w k, add-mul (n % 2 * 2 ^ w) (reversed w (n / 2)) (2 ^ k), mul_assoc (n % 2) (2 ^ w) (2 ^ k)) (ap (λ (x : ℕ). n % 2 * (2 ^ w * 2 ^ k) + x) rest)

reversed_within : (b w n : ℕ) → n < 2 ^ w → w ≤ b → reverse_bits_onto b n 0 / 2 ^ (b - w) ≡ reversed w n
reversed_within b w n below few =
    let parts : b ≡ w + (b - w) = omega arith in
    let high : reversed b n ≡ reversed w n * 2 ^ (b - w) = ap (λ (k : ℕ). reversed k n) parts ∙ reversed-add w (b - w) n below in
    let all : reverse_bits_onto b n 0 ≡ reversed w n * 2 ^ (b - w) = omega (arith, onto_is b n 0) in
    rw all (shl-shr (reversed w n) (b - w))

pub reversed_is : (w n : ℕ) → n < 2 ^ w → w ≤ 128 → reverse_bits_onto 128 n 0 / 2 ^ (128 - w) ≡ reversed w n
reversed_is w n below few = reversed_within 128 w n below few

pub reversed_below : (w n : ℕ) → reversed w n < 2 ^ w
reversed_below zero n = omega arith
reversed_below (suc w) n =
    let bit : n % 2 ≤ 1 = omega arith in
    let high : n % 2 * 2 ^ w ≤ 1 * 2 ^ w = mul-le-mul_right (2 ^ w) bit in
    omega (arith, pow-suc 2 w, reversed_below w (n / 2))
