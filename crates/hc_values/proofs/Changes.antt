-- Lists that were changed place by place.
use Rattle.std.proofs.Common.{◌≡◌, ℕ, zero, suc, ◌<◌, ◌⊎◌, inl, inr, List, [], ◌∷◌, length, refl, sym, subst, ◌∙◌, ap, arith}
use Rattle.std.specs.Prelude.{slice_get, slice_set, Option, Some, None}
use Rattle.std.proofs.lemmas.Option.{slice_get_within}
use Rattle.hc_signal.specs.Member.{Has, first, later}
use Rattle.hc_values.specs.Updates.{replaced_item, replaced, updated}

set_here : {X : Type 0} (xs : List X) (n : ℕ) (x : X) → n < length xs → slice_get (slice_set xs n x) n ≡ Some x
set_here [] n x l = absurd (omega (arith, l))
set_here (y ∷ xs) zero x l = refl
set_here (y ∷ xs) (suc n) x l = set_here xs n x (omega (arith, l))

set_other : {X : Type 0} (xs : List X) (n m : ℕ) (x : X) → (n ≡ m → ⊥) → slice_get (slice_set xs n x) m ≡ slice_get xs m
set_other [] n m x d = refl
set_other (y ∷ xs) zero zero x d = absurd (d refl)
set_other (y ∷ xs) zero (suc m) x d = refl
set_other (y ∷ xs) (suc n) zero x d = refl
set_other (y ∷ xs) (suc n) (suc m) x d = set_other xs n m x (λ e. d (ap suc e))

same_or_not : (n m : ℕ) → (n ≡ m) ⊎ (n ≡ m → ⊥)
same_or_not zero zero = inl refl
same_or_not zero (suc m) = inr (λ e. cc)
same_or_not (suc n) zero = inr (λ e. cc)
same_or_not (suc n) (suc m) = elim (same_or_not n m) [ inl e ↦ inl (ap suc e) | inr d ↦ inr (λ e. d (cc)) ]

pub replaced_is : {X : Type 0} (f : X → X) (n : ℕ) (xs : List X) (x : X) → slice_get xs n ≡ Some x → replaced f n xs ≡ slice_set xs n (f x)
replaced_is f n xs x at = ap (replaced_item f n xs) at

pub replaced_past : {X : Type 0} (f : X → X) (n : ℕ) (xs : List X) → slice_get xs n ≡ None → replaced f n xs ≡ xs
replaced_past f n xs at = ap (replaced_item f n xs) at

replaced_other : {X : Type 0} (f : X → X) (n m : ℕ) (xs : List X) → (n ≡ m → ⊥) → slice_get (replaced f n xs) m ≡ slice_get xs m
replaced_other {X} f n m xs d = go (slice_get xs n) refl
  where
    go : (o : Option X) → slice_get xs n ≡ o → slice_get (replaced f n xs) m ≡ slice_get xs m
    go None e = ap (λ l. slice_get l m) (replaced_past f n xs e)
    go (Some x) e = ap (λ l. slice_get l m) (replaced_is f n xs x e) ∙ set_other xs n m (f x) d

replaced_here : {X : Type 0} (f : X → X) (n : ℕ) (xs : List X) (x : X) → slice_get xs n ≡ Some x → slice_get (replaced f n xs) n ≡ Some (f x)
replaced_here f n xs x at = ap (λ l. slice_get l n) (replaced_is f n xs x at) ∙ set_here xs n (f x) (slice_get_within xs n x at)

-- what stands at none of the places stays
pub updated_other : {X : Type 0} (f : ℕ → X → X) (places : List ℕ) (xs : List X) (m : ℕ) → ¬ Has places m → slice_get (updated f places xs) m ≡ slice_get xs m
updated_other f [] xs m d = refl
updated_other f (n ∷ places) xs m d =
    updated_other f places (replaced (f n) n xs) m (λ h. d (later h)) ∙ replaced_other (f n) n m xs (λ e. d (subst (λ k. Has (n ∷ places) k) e first))

-- What the change at a place makes of its item, where another such change would keep it: a place may be named twice.
module _ {X : Type 0} (f : ℕ → X → X) (m : ℕ) (P : X → Type 0) (kept : (x : X) → P x → P (f m x)) where
  abbrev pub HasItem : List X → Type 0
  HasItem xs = (x : X) × (slice_get xs m ≡ Some x) × P x

  replaced_keeps : (n : ℕ) (xs : List X) → HasItem xs → HasItem (replaced (f n) n xs)
  replaced_keeps n xs h = go (same_or_not n m)
    where
      go : (n ≡ m) ⊎ (n ≡ m → ⊥) → HasItem (replaced (f n) n xs)
      go (inl e) = subst (λ k. HasItem (replaced (f k) k xs)) (sym e) (f m h.0, replaced_here (f m) m xs h.0 h.1, kept h.0 h.2)
      go (inr d) = (h.0, replaced_other (f n) n m xs d ∙ h.1, h.2)

  updated_keeps : (places : List ℕ) (xs : List X) → HasItem xs → HasItem (updated f places xs)
  updated_keeps [] xs h = h
  updated_keeps (n ∷ places) xs h = updated_keeps places (replaced (f n) n xs) (replaced_keeps n xs h)

  there : (n : ℕ) (places : List ℕ) → (n ≡ m → ⊥) → Has (n ∷ places) m → Has places m
  there n places d first = absurd (d refl)
  there n places d (later h) = h

  pub updated_makes : (places : List ℕ) (xs : List X) (x : X) → slice_get xs m ≡ Some x → Has places m → P (f m x) → HasItem (updated f places xs)
  updated_makes [] xs x at h made = elim h [ ]
  updated_makes (n ∷ places) xs x at h made =
      elim (same_or_not n m) [
        | inl e ↦ updated_keeps places (replaced (f n) n xs) (subst (λ k. HasItem (replaced (f k) k xs)) (sym e) (f m x, replaced_here (f m) m xs x at, made))
        | inr d ↦ updated_makes places (replaced (f n) n xs) x (replaced_other (f n) n m xs d ∙ at) (there n places d h) made
      ]
