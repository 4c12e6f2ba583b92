-- A graph together with a tree for each of its instances.
use Rattle.std.specs.Prelude.{◌≡◌, ℕ, [], slice_get, Some}
use Rattle.hc_signal.specs.declared.signal.Instance.{Instance}
use Rattle.hc_signal.specs.Graph.{Graph}
use Rattle.hc_signal.specs.Lawful.{IsLawful}

-- A graph, and the tree of each instance by its number; no tree where there is no such instance.
pub data Tree : Type 0 where
  none : Tree
  tree : (graph : Graph) (kids : ℕ → Tree) → Tree

abbrev pub empty : Graph
empty = record { ports = record { inputs = []; outputs = [] }; outputs = []; nodes = []; memories = []; instances = [] }

abbrev pub graph : Tree → Graph
graph none = empty
graph (tree g kids) = g

abbrev pub kid : Tree → ℕ → Tree
kid none i = none
kid (tree g kids) i = kids i

-- Each graph is lawful, each instance has a tree, and its ports are those of its tree.
abbrev pub IsWhole : Tree → Type 0
IsWhole none = ⊥
IsWhole (tree g kids) = IsLawful g × ((i : ℕ) (it : Instance) → slice_get g.instances i ≡ Some it → ((graph (kids i)).ports ≡ it.ports) × IsWhole (kids i))

-- a circuit without instances, as a tree
abbrev pub leaf : Graph → Tree
leaf g = tree g (λ i. none)
