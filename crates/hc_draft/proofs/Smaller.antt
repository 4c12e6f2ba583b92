-- A mask within another is no larger number.
use Rattle.std.proofs.Common.{◌≡◌, ℕ, zero, suc, ◌/◌, ◌%◌, ◌≤◌, ◌<◌, inl, inr, arith}
use Rattle.std.specs.Prelude.{IsBitSet}
use Rattle.std.specs.Int.{bit_at}
use Rattle.std.proofs.lemmas.Nat.Bits.{bit_at_lowest, bit_at-suc, bit_at-lt}
use Rattle.hc_paths.proofs.Picked.{to_bit, from_bit}
use Rattle.hc_paths.proofs.Searching.{same_or_not}

by_bits : (fuel a b : ℕ) → a ≤ fuel → ((k : ℕ) → bit_at a k ≤ bit_at b k) → a ≤ b
by_bits zero a b l h = omega (arith, l)
by_bits (suc fuel) a b l h =
    let low : bit_at a 0 ≤ bit_at b 0 = h 0 in
    let p : bit_at a 0 ≡ a % 2 = bit_at_lowest a in
    let q : bit_at b 0 ≡ b % 2 = bit_at_lowest b in
    let high : a / 2 ≤ b / 2 = by_bits fuel (a / 2) (b / 2) (omega (arith, l))
    (λ k. let x : bit_at a (suc k) ≡ bit_at (a / 2) k = bit_at-suc a k in let y : bit_at b (suc k) ≡ bit_at (b / 2) k = bit_at-suc b k in let z : bit_at a (suc k) ≤ bit_at b
    (suc k) = h (suc k) in omega (arith, x, y, z)) in
    omega (arith, low, p, q, high)

bit_up : (a b k : ℕ) → (IsBitSet a k → IsBitSet b k) → bit_at a k ≤ bit_at b k
bit_up a b k h = elim (same_or_not (bit_at a k) 1) [
  | inl e ↦ let f : bit_at b k ≡ 1 = to_bit b k (h (from_bit a k e)) in omega (arith, e, f)
  | inr d ↦ let l : bit_at a k < 2 = bit_at-lt a k in omega (arith, l, d)
]

pub no_larger : (a b : ℕ) → ((k : ℕ) → IsBitSet a k → IsBitSet b k) → a ≤ b
no_larger a b h = by_bits a a b (omega arith) (λ k. bit_up a b k (h k))
