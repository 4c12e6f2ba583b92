-- A list of different elements is no longer than a list that has them all.
use Rattle.std.proofs.Common.{◌≡◌, suc, ◌≤◌, List, [], ◌∷◌, length, refl, subst, ap, arith}
use Rattle.hc_signal.specs.Member.{Has, first, later}
use Rattle.hc_walk.proofs.Walks.{AllDifferent}

-- the list without the element at a place
without : {X : Type 0} {x : X} {xs : List X} → Has xs x → List X
without {xs = []} h = elim h [ ]
without {xs = y ∷ ys} first = ys
without {xs = y ∷ ys} (later h) = y ∷ without h

length-without : {X : Type 0} {x : X} {xs : List X} (h : Has xs x) → suc (length (without h)) ≡ length xs
unfolding without
length-without first = refl
length-without (later h) = ap suc (length-without h)

has_without : {X : Type 0} {x z : X} {xs : List X} (h : Has xs x) → Has xs z → (z ≡ x → ⊥) → Has (without h) z
unfolding without
has_without first first n = absurd (n refl)
has_without first (later k) n = k
has_without (later h) first n = first
has_without (later h) (later k) n = later (has_without h k n)

pub no_more : {X : Type 0} (xs ys : List X) → AllDifferent xs → ((z : X) → Has xs z → Has ys z) → length xs ≤ length ys
no_more [] ys d s = omega arith
no_more {X} (x ∷ xs) ys d s =
    let h : Has ys x = s x first in
    let r : length xs ≤ length (without h) = no_more xs (without h) d.1 (λ z k. has_without h (s z (later k)) (λ e. d.0 (subst (λ y. Has xs y) e k))) in
    let l : suc (length (without h)) ≡ length ys = length-without h in
    omega (arith, r, l)
