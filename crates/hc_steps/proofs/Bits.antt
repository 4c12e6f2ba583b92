-- Bits of masks.
use Rattle.std.proofs.Common.{◌≡◌, ℕ, ◌^◌, ◌<◌, ◌≤◌, min, sym, subst, arith}
use Rattle.std.specs.Prelude.{IsBitSet, bit_and}
use Rattle.std.specs.Int.{bit_at}
use Rattle.std.proofs.lemmas.Nat.Bits.{bit_at-lt, bit_at_and, bit_at_above}
use Rattle.hc_paths.proofs.Picked.{to_bit, from_bit}

-- the bits that two masks have in common
pub and_left : (a b k : ℕ) → IsBitSet (bit_and a b) k → IsBitSet a k
and_left a b k h = from_bit a k (let e : bit_at (bit_and a b) k ≡ min (bit_at a k) (bit_at b k) = bit_at_and a b k in let q : bit_at (bit_and a b) k ≡ 1 = to_bit (bit_and a b) k h
    in let l : bit_at a k < 2 = bit_at-lt a k in omega (arith, e, q, l))

pub and_right : (a b k : ℕ) → IsBitSet (bit_and a b) k → IsBitSet b k
and_right a b k h = from_bit b k (let e : bit_at (bit_and a b) k ≡ min (bit_at a k) (bit_at b k) = bit_at_and a b k in let q : bit_at (bit_and a b) k ≡ 1 = to_bit (bit_and a b) k h
    in let l : bit_at b k < 2 = bit_at-lt b k in omega (arith, e, q, l))

pub and_both : (a b k : ℕ) → IsBitSet a k → IsBitSet b k → IsBitSet (bit_and a b) k
and_both a b k x y = from_bit (bit_and a b) k (let e : bit_at (bit_and a b) k ≡ min (bit_at a k) (bit_at b k) = bit_at_and a b k in let p : bit_at a k ≡ 1 = to_bit a k x
    in let q : bit_at b k ≡ 1 = to_bit b k y in omega (arith, e, p, q))

-- a mask whose common bits with another are its own lies within it
pub within : (a b : ℕ) → bit_and a b ≡ a → (k : ℕ) → IsBitSet a k → IsBitSet b k
within a b e k h = and_right a b k (subst (λ z. IsBitSet z k) (sym e) h)

-- a mask has no bit past its range
pub bit_inside : (n k m : ℕ) → n < 2 ^ m → IsBitSet n k → m ≤ k → ⊥
bit_inside n k m r h l = let z : bit_at n k ≡ 0 = bit_at_above n m k r l in let q : bit_at n k ≡ 1 = to_bit n k h in omega (arith, z, q)

pub bit_below : (n k m : ℕ) → n < 2 ^ m → IsBitSet n k → k < m
bit_below n k m r h = let f : m ≤ k → ⊥ = bit_inside n k m r h in omega (arith, f)
