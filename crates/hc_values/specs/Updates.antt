-- Lists that are changed place by place.
use Rattle.std.specs.Prelude.{ℕ, List, [], ◌∷◌, slice_get, slice_set, Option, Some, None}

abbrev pub replaced_item : {X : Type 0} → (X → X) → ℕ → List X → Option X → List X
replaced_item f place xs None = xs
replaced_item f place xs (Some x) = slice_set xs place (f x)

-- the list after the item at a place was replaced; nothing changes past the end
abbrev pub replaced : {X : Type 0} → (X → X) → ℕ → List X → List X
replaced f place xs = replaced_item f place xs (slice_get xs place)

-- the list after the items at these places were replaced, in this order
abbrev pub updated : {X : Type 0} → (ℕ → X → X) → List ℕ → List X → List X
updated f [] xs = xs
updated f (place ∷ places) xs = updated f places (replaced (f place) place xs)
