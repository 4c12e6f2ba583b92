-- Places in lists: after an append, and after a change of one element.
use Rattle.std.proofs.Common.{◌≡◌, ◌≢◌, ℕ, zero, suc, ◌+◌, ◌⊎◌, Bool, true, List, [], ◌∷◌, ◌++◌, length, refl, sym, subst, ap, ◌∙◌, inl, inr, arith}
use Rattle.std.specs.Prelude.{slice_get, Some}
use Rattle.std.specs.List.{list_any}
use Rattle.std.proofs.lemmas.Option.{same_Some}
use Rattle.std.proofs.lemmas.Bool.{or_right}
use Rattle.hc_signal.specs.Member.{Has, first, later}
use Rattle.hc_signal.specs.Builds.{change_at}

-- an element of a list with one more is in it, or is the last
pub has_pushed : {X : Type 0} (xs : List X) (y x : X) → Has (xs ++ y ∷ []) x → Has xs x ⊎ (y ≡ x)
has_pushed [] y x first = inr refl
has_pushed [] y x (later h) = elim h [ ]
has_pushed (z ∷ xs) y x first = inl first
has_pushed (z ∷ xs) y x (later h) = elim (has_pushed xs y x h) [ inl l ↦ inl (later l) | inr r ↦ inr r ]

-- the place of an element
pub has_place : {X : Type 0} {xs : List X} {x : X} → Has xs x → (i : ℕ) × (slice_get xs i ≡ Some x)
has_place first = (zero, refl)
has_place (later h) = let r : _ = has_place h in (suc r.0, r.1)

pub has_from_place : {X : Type 0} (xs : List X) (i : ℕ) (x : X) → slice_get xs i ≡ Some x → Has xs x
has_from_place [] i x e = cc
has_from_place (y ∷ xs) zero x e = subst (λ z. Has (z ∷ xs) x) (sym (same_Some y x e)) first
has_from_place (y ∷ xs) (suc i) x e = later (has_from_place xs i x e)

pub place_left : {X : Type 0} (xs ys : List X) (i : ℕ) (x : X) → slice_get xs i ≡ Some x → slice_get (xs ++ ys) i ≡ Some x
place_left [] ys i x e = cc
place_left (y ∷ xs) ys zero x e = e
place_left (y ∷ xs) ys (suc i) x e = place_left xs ys i x e

pub place_last : {X : Type 0} (xs : List X) (y : X) → slice_get (xs ++ y ∷ []) (length xs) ≡ Some y
place_last [] y = refl
place_last (x ∷ xs) y = place_last xs y

pub place_cases : {X : Type 0} (xs : List X) (y : X) (i : ℕ) (x : X) → slice_get (xs ++ y ∷ []) i ≡ Some x → (slice_get xs i ≡ Some x) ⊎ ((i ≡ length xs) × (y ≡ x))
place_cases [] y zero x e = inr (refl, same_Some y x e)
place_cases [] y (suc i) x e = cc
place_cases (z ∷ xs) y zero x e = inl e
place_cases (z ∷ xs) y (suc i) x e = elim (place_cases xs y i x e) [ inl l ↦ inl l | inr r ↦ inr (ap suc r.0, r.1) ]

pub place_right : {X : Type 0} (xs ys : List X) (i : ℕ) → slice_get (xs ++ ys) (length xs + i) ≡ slice_get ys i
place_right [] ys i = ap (slice_get ys) (omega arith)
place_right (x ∷ xs) ys i = (let e : length (x ∷ xs) + i ≡ suc (length xs + i) = omega arith in ap (slice_get (x ∷ (xs ++ ys))) e) ∙ place_right xs ys i

pub length-change_at : {X : Type 0} (f : X → X) (n : ℕ) (xs : List X) → length (change_at f n xs) ≡ length xs
length-change_at f n [] = refl
length-change_at f zero (x ∷ xs) = refl
length-change_at f (suc n) (x ∷ xs) = ap suc (length-change_at f n xs)

pub changed_there : {X : Type 0} (f : X → X) (n : ℕ) (xs : List X) (x : X) → slice_get xs n ≡ Some x → slice_get (change_at f n xs) n ≡ Some (f x)
changed_there f n [] x e = cc
changed_there f zero (y ∷ xs) x e = ap (λ z. Some (f z)) (same_Some y x e)
changed_there f (suc n) (y ∷ xs) x e = changed_there f n xs x e

pub same_elsewhere : {X : Type 0} (f : X → X) (n : ℕ) (xs : List X) (i : ℕ) → i ≢ n → slice_get (change_at f n xs) i ≡ slice_get xs i
same_elsewhere f n [] i d = refl
same_elsewhere f zero (x ∷ xs) zero d = absurd (d refl)
same_elsewhere f zero (x ∷ xs) (suc i) d = refl
same_elsewhere f (suc n) (x ∷ xs) zero d = refl
same_elsewhere f (suc n) (x ∷ xs) (suc i) d = same_elsewhere f n xs i (λ e. d (ap suc e))

pub some_passes : {X : Type 0} (p : X → Bool) (xs : List X) (x : X) → Has xs x → p x ≡ true → list_any p xs ≡ true
some_passes p (y ∷ xs) x first e = rw e refl
some_passes p (y ∷ xs) x (later h) e = or_right (p y) (list_any p xs) (some_passes p xs x h e)
some_passes p [] x h e = elim h [ ]
