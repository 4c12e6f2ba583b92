-- Membership in lists.
use Rattle.std.proofs.Common.{◌≡◌, ℕ, zero, suc, ◌⊎◌, List, [], ◌∷◌, ◌++◌, map, refl, subst, ap, inl, inr}
use Rattle.std.specs.Prelude.{slice_get, Some, unwrap_or}
use Rattle.hc_signal.specs.Member.{Has, first, later}

pub has_map : {X Y : Type 0} (f : X → Y) {xs : List X} {x : X} → Has xs x → Has (map f xs) (f x)
has_map f first = first
has_map f (later h) = later (has_map f h)

pub has_from_map : {X Y : Type 0} (f : X → Y) (xs : List X) (y : Y) → Has (map f xs) y → (x : X) × Has xs x × (f x ≡ y)
has_from_map f [] y h = elim h [ ]
has_from_map f (x ∷ xs) y first = (x, first, refl)
has_from_map f (x ∷ xs) y (later h) = let r : _ = has_from_map f xs y h in (r.0, later r.1, r.2)

pub has_left : {X : Type 0} {xs : List X} (ys : List X) {x : X} → Has xs x → Has (xs ++ ys) x
has_left ys first = first
has_left ys (later h) = later (has_left ys h)

pub has_right : {X : Type 0} (xs : List X) {ys : List X} {x : X} → Has ys x → Has (xs ++ ys) x
has_right [] h = h
has_right (y ∷ xs) h = later (has_right xs h)

pub has_cases : {X : Type 0} (xs ys : List X) {x : X} → Has (xs ++ ys) x → Has xs x ⊎ Has ys x
has_cases [] ys h = inr h
has_cases (x ∷ xs) ys first = inl first
has_cases (x ∷ xs) ys (later h) = elim (has_cases xs ys h) [ inl l ↦ inl (later l) | inr r ↦ inr r ]

pub has_slice : {X : Type 0} (xs : List X) (k : ℕ) (x : X) → slice_get xs k ≡ Some x → Has xs x
has_slice [] k x e = cc
has_slice {X} (y ∷ xs) zero x e = subst (λ z. Has (y ∷ xs) z) (ap (λ o. unwrap_or o y) e) first
has_slice (y ∷ xs) (suc k) x e = later (has_slice xs k x e)
