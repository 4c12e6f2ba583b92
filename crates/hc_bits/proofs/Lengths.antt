-- The number of bits that a number needs.
use Rattle.std.proofs.Common.{◌≡◌, ℕ, zero, suc, ◌+◌, ◌-◌, ◌*◌, ◌^◌, ◌≤◌, ◌<◌, inl, inr, arith}
use Rattle.std.specs.Prelude.{max}
use Rattle.std.proofs.lemmas.Bool.{cases_lt}
use Rattle.std.proofs.Math.Pow.{pow_mono}
use Rattle.std.proofs.Math.Nat.{pow-suc}
use Rattle.std.specs.Int.Count.{count_leading_zeros}
use Rattle.std.proofs.lemmas.Nat.{leading_length}
use Rattle.hc_bits.specs.Catalogue.{leading_zeros, bits_of}

-- the exponents of powers are in their order
pub pow_lt-lt : (i j : ℕ) → 2 ^ i < 2 ^ j → i < j
pow_lt-lt i j h =
    elim (cases_lt i j) [
      | inl below ↦ below
      | inr above ↦
          let powers : 2 ^ j ≤ 2 ^ i = pow_mono above in
          omega arith
    ]

-- m is the length of n: the least number of bits that n fits
pub record IsLength (n m : ℕ) : Type 0 where
  pub fits : n < 2 ^ m
  pub tight : 2 ^ m ≤ 2 * n + 1

pub length_least : (n m k : ℕ) → IsLength n m → n < 2 ^ k → m ≤ k
length_least n m k len below =
    let more : 2 ^ m < 2 ^ suc k = omega (arith, len.tight, pow-suc 2 k) in
    omega (arith, pow_lt-lt m (suc k) more)

pub below_pow : (n : ℕ) → n < 2 ^ n
below_pow zero = omega arith
below_pow (suc n) = omega (arith, below_pow n, pow-suc 2 n)

-- the zeros above a number and its length make up the width
pub leading_zeros-length : (w n m : ℕ) → IsLength n m → m ≤ w → leading_zeros w n + m ≡ w
leading_zeros-length zero n m len few = omega arith
leading_zeros-length (suc w) n m len few =
    elim (cases_lt n (2 ^ w)) [
      | inl below ↦
          let rest : leading_zeros w n + m ≡ w = leading_zeros-length w n m len (length_least n m w len below) in
          grind (arith, rest)
      | inr above ↦
          let powers : 2 ^ w < 2 ^ m = omega (arith, len.fits) in
          let all : w < m = pow_lt-lt w m powers in
          grind (arith, all)
    ]

pub bits_of-length : (n m : ℕ) → IsLength n m → bits_of n ≡ max 1 m
bits_of-length n m len =
    let sum : leading_zeros n n + m ≡ n = leading_zeros-length n n m len (length_least n m n len (below_pow n)) in
    let rest : n - leading_zeros n n ≡ m = omega arith in
    rw rest

-- what counting zeros of 64 bits gives
pub length_from_zeros : (n : ℕ) → n < 2 ^ 64 → IsLength n (64 - count_leading_zeros 64 n)
length_from_zeros n below =
    let p = leading_length 64 n below in
    let same : p.0 ≡ 64 - count_leading_zeros 64 n = omega (arith, p.1) in
    rw (← same) (record { fits = p.2; tight = p.3 })
