-- The paths of the instances of an unfolding, by their numbers.
use Rattle.std.specs.Prelude.{ℕ, List, [], ◌∷◌, ◌++◌, length, map}
use Rattle.std.specs.List.{range_with_len}
use Rattle.hc_canon.specs.declared.form.EntryId.{EntryId}
use Rattle.hc_canon.specs.FormView.{FormView}
use Rattle.hc_layout.specs.Layout.{Layout, kids_of}

-- the paths of so many own instances of the instance at a path
abbrev pub own_paths : List ℕ → ℕ → List (List ℕ)
own_paths path n = map (λ i. i ∷ path) (range_with_len 0 n)

-- Each instance takes the first of the paths that wait; those of its own instances wait behind all others.
abbrev pub paths_from : List FormView → List EntryId → List (List ℕ) → List (List ℕ)
paths_from forms [] waiting = []
paths_from forms (id ∷ ids) [] = []
paths_from forms (id ∷ ids) (path ∷ waiting) = path ∷ paths_from forms ids (waiting ++ own_paths path (length (kids_of forms id)))

-- The path of each instance, by its number.
abbrev pub paths : List FormView → Layout → List (List ℕ)
paths forms l = paths_from forms l.entries ([] ∷ [])
