-- A property has one number of kinds.
use Rattle.std.proofs.Common.{◌≡◌, ℕ, zero, suc, ◌+◌, ◌≤◌, ◌⊎◌, inl, inr, List, [], ◌∷◌, length, refl, subst, arith}
use Rattle.hc_signal.specs.Member.{Has, first, later}
use Rattle.hc_signal.specs.Tree.{Tree}
use Rattle.hc_canon.specs.Same.{Same}
use Rattle.hc_canon.proofs.Isomorphisms.{same-sym, same-trans}
use Rattle.hc_canon.proofs.LaidOut.{has_index}
use Rattle.hc_summary.specs.Kinds.{AreApart, IsNumberOfKinds}

-- a list without one of its trees
record Without (ts : List Tree) (t : Tree) : Type 0 where
  rest : List Tree
  shorter : length ts ≡ length rest + 1
  others : (s : Tree) → Has ts s → Has rest s ⊎ (s ≡ t)

without : (ts : List Tree) (t : Tree) → Has ts t → Without ts t
without [] t h = elim h [ ]
without (x ∷ ts) t first = record { rest = ts; shorter = omega arith; others = λ s h. first_or s h }
  where
    first_or : (s : Tree) → Has (t ∷ ts) s → Has ts s ⊎ (s ≡ t)
    first_or s first = inr refl
    first_or s (later h) = inl h
without (x ∷ ts) t (later h) = by (without ts t h)
  where
    by : Without ts t → Without (x ∷ ts) t
    by w = record { rest = x ∷ w.rest; shorter = let n = w.shorter in omega (arith, n); others = others }
      where
        others : (s : Tree) → Has (x ∷ ts) s → Has (x ∷ w.rest) s ⊎ (s ≡ t)
        others s first = inl first
        others s (later k) = elim (w.others s k) [ inl old ↦ inl (later old) | inr same ↦ inr same ]

tail_apart : (t : Tree) (ts : List Tree) → AreApart (t ∷ ts) → AreApart ts
tail_apart t ts apart i j a b at there same = let e : suc i ≡ suc j = apart (suc i) (suc j) a b at there same in omega (arith, e)

-- no later tree is the same as the first
head_apart : (t : Tree) (ts : List Tree) → AreApart (t ∷ ts) → (s : Tree) → Has ts s → Same t s → ⊥
head_apart t ts apart s h same =
    let i = has_index h in
    let e : 0 ≡ suc i.0 = apart zero (suc i.0) t s refl i.1 same in
    omega (arith, e)

abbrev AreFoundIn : List Tree → List Tree → Type 0
AreFoundIn ks ts = (s : Tree) → Has ks s → (t : Tree) × Has ts t × Same t s

-- trees that are apart are no more than trees among which each has one that is the same
fewer : (ks ts : List Tree) → AreApart ks → AreFoundIn ks ts → length ks ≤ length ts
fewer [] ts apart found = omega arith
fewer (k ∷ ks) ts apart found =
    let own = found k first in
    let w = without ts own.0 own.1 in
    let le = fewer ks w.rest (tail_apart k ks apart) (rest_found own.0 own.2 w) in
    let n = w.shorter in
    omega (arith, le, n)
  where
    rest_found : (t : Tree) → Same t k → (w : Without ts t) → AreFoundIn ks w.rest
    rest_found t same w s h = by (found s (later h))
      where
        by : (u : Tree) × Has ts u × Same u s → (u : Tree) × Has w.rest u × Same u s
        by (u, has, alike) = elim (w.others u has) [
          | inl old ↦ (u, old, alike)
          | inr is ↦ absurd (head_apart k ks apart s h (same-trans k t s (same-sym t k same) (subst (λ (x : Tree). Same x s) is alike)))
        ]

pub kinds_single : (P : Tree → Type 0) (n m : ℕ) → IsNumberOfKinds P n → IsNumberOfKinds P m → n ≡ m
kinds_single P n m a b =
    let le = fewer a.kinds b.kinds a.apart (λ s h. b.all s (a.some s h)) in
    let ge = fewer b.kinds a.kinds b.apart (λ s h. a.all s (b.some s h)) in
    let x = a.many in
    let y = b.many in
    omega (arith, le, ge, x, y)
