-- Membership in lists.
use Rattle.std.proofs.Common.{◌≡◌, ◌⊎◌, suc, List, [], ◌∷◌, ◌++◌, map, length, refl, ap, inl, inr}
use Rattle.hc_signal.specs.Member.{Has, first, later}

pub has_map : {X Y : Type 0} (f : X → Y) {xs : List X} {x : X} → Has xs x → Has (map f xs) (f x)
has_map f first = first
has_map f (later h) = later (has_map f h)

pub has_left : {X : Type 0} {xs : List X} (ys : List X) {x : X} → Has xs x → Has (xs ++ ys) x
has_left ys first = first
has_left ys (later h) = later (has_left ys h)

pub has_right : {X : Type 0} (xs : List X) {ys : List X} {x : X} → Has ys x → Has (xs ++ ys) x
has_right [] h = h
has_right (y ∷ xs) h = later (has_right xs h)

pub has_cases : {X : Type 0} (xs ys : List X) {x : X} → Has (xs ++ ys) x → Has xs x ⊎ Has ys x
has_cases [] ys h = inr h
has_cases (x ∷ xs) ys first = inl first
has_cases (x ∷ xs) ys (later h) = elim (has_cases xs ys h) [ inl l ↦ inl (later l) | inr r ↦ inr r ]

-- the list without the element at a place
pub without : {X : Type 0} {x : X} {xs : List X} → Has xs x → List X
without {xs = []} h = elim h [ ]
without {xs = y ∷ ys} first = ys
without {xs = y ∷ ys} (later h) = y ∷ without h

pub length-without : {X : Type 0} {x : X} {xs : List X} (h : Has xs x) → suc (length (without h)) ≡ length xs
unfolding without
length-without first = refl
length-without (later h) = ap suc (length-without h)

pub has_without : {X : Type 0} {x z : X} {xs : List X} (h : Has xs x) → Has xs z → (z ≡ x → ⊥) → Has (without h) z
unfolding without
has_without first first n = absurd (n refl)
has_without first (later k) n = k
has_without (later h) first n = first
has_without (later h) (later k) n = later (has_without h k n)
