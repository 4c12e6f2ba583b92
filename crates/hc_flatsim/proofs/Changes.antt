-- Lists that were changed at places that all differ.
use Rattle.std.proofs.Common.{◌≡◌, ℕ, List, [], ◌∷◌, refl, sym, subst, ◌∙◌, ap}
use Rattle.std.specs.Prelude.{slice_get, slice_set, Option, Some, None}
use Rattle.std.proofs.lemmas.Option.{slice_get_within}
use Rattle.hc_signal.specs.Member.{Has, first, later}
use Rattle.hc_paths.specs.Digraph.{AllDifferent}
use Rattle.hc_paths.proofs.Searching.{get_set_same, get_set_other}
use Rattle.hc_flatsim.specs.Updates.{replaced_item, replaced, updated}

pub replaced_is : {X : Type 0} (f : X → X) (n : ℕ) (xs : List X) (x : X) → slice_get xs n ≡ Some x → replaced f n xs ≡ slice_set xs n (f x)
replaced_is f n xs x at = ap (replaced_item f n xs) at

pub replaced_past : {X : Type 0} (f : X → X) (n : ℕ) (xs : List X) → slice_get xs n ≡ None → replaced f n xs ≡ xs
replaced_past f n xs at = ap (replaced_item f n xs) at

replaced_other : {X : Type 0} (f : X → X) (n m : ℕ) (xs : List X) → (n ≡ m → ⊥) → slice_get (replaced f n xs) m ≡ slice_get xs m
replaced_other f n m xs d = go (slice_get xs n) refl
  where
    go : (o : Option _) → slice_get xs n ≡ o → slice_get (replaced f n xs) m ≡ slice_get xs m
    go None e = ap (λ l. slice_get l m) (replaced_past f n xs e)
    go (Some x) e = ap (λ l. slice_get l m) (replaced_is f n xs x e) ∙ get_set_other xs n m (f x) d

replaced_here : {X : Type 0} (f : X → X) (n : ℕ) (xs : List X) (x : X) → slice_get xs n ≡ Some x → slice_get (replaced f n xs) n ≡ Some (f x)
replaced_here f n xs x at = ap (λ l. slice_get l n) (replaced_is f n xs x at) ∙ get_set_same xs n (f x) (slice_get_within xs n x at)

-- what stands at none of the places stays
pub updated_other : {X : Type 0} (f : ℕ → X → X) (places : List ℕ) (m : ℕ) (xs : List X) → ¬ Has places m → slice_get (updated f places xs) m ≡ slice_get xs m
updated_other f [] m xs d = refl
updated_other f (n ∷ places) m xs d =
    updated_other f places m (replaced (f n) n xs) (λ h. d (later h)) ∙ replaced_other (f n) n m xs (λ e. d (subst (λ k. Has (n ∷ places) k) e first))

-- what stands at one of the places changes once
pub updated_here : {X : Type 0} (f : ℕ → X → X) (places : List ℕ) (m : ℕ) (xs : List X) (x : X) → AllDifferent places → Has places m → slice_get xs m ≡ Some x
    → slice_get (updated f places xs) m ≡ Some (f m x)
updated_here f [] m xs x d h at = elim h [ ]
updated_here f (n ∷ places) _ xs x d first at = updated_other f places n (replaced (f n) n xs) d.0 ∙ replaced_here (f n) n xs x at
updated_here f (n ∷ places) m xs x d (later h) at =
    updated_here f places m (replaced (f n) n xs) x d.1 h (replaced_other (f n) n m xs (λ e. d.0 (subst (λ k. Has places k) (sym e) h)) ∙ at)
