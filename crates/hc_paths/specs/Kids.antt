-- The masks that a list of paths holds.
use Rattle.std.specs.Prelude.{ℕ, List, map}
use Rattle.hc_paths.specs.declared.kinds.Paths.{Paths}

abbrev pub masks_of : List Paths → List (List ℕ)
masks_of kids = map (λ (p : Paths). p.masks) kids
