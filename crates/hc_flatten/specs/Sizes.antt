-- How many nodes and memories a tree has.
use Rattle.std.specs.Prelude.{◌≡◌, ℕ, zero, suc, ◌+◌, List, length, slice_get, Option, Some}
use Rattle.hc_signal.specs.Graph.{Graph}
use Rattle.hc_signal.specs.Tree.{Tree, none, tree}
use Rattle.hc_canon.specs.declared.form.EntryId.{EntryId}
use Rattle.hc_canon.specs.FormView.{FormView}
use Rattle.hc_dbstate.specs.Unfolding.{unfolding_of}
use Rattle.hc_flatten.specs.declared.size.Size.{Size}

-- the sum of the first n numbers
abbrev pub sum_to : (ℕ → ℕ) → ℕ → ℕ
sum_to f zero = 0
sum_to f (suc n) = sum_to f n + f n

-- what is counted in a graph, over all graphs of a tree
abbrev pub total : (Graph → ℕ) → Tree → ℕ
total count none = 0
total count (tree g kids) = count g + sum_to (λ i. total count (kids i)) (length g.instances)

abbrev pub nodes_in : Graph → ℕ
nodes_in g = length g.nodes

abbrev pub memories_in : Graph → ℕ
memories_in g = length g.memories

pub record HasSize (t : Tree) (size : Size) : Type 0 where
  pub nodes : size.nodes ≡ total nodes_in t
  pub memories : size.memories ≡ total memories_in t

-- for each entry its size, unless it does not fit
abbrev pub AreSizes : List FormView → List (Option Size) → Type 0
AreSizes entries sizes = (k : ℕ) (size : Size) → slice_get sizes k ≡ Some (Some size) → HasSize (unfolding_of entries (record { 0 = k })) size

-- a size and that of an entry together
pub record IsAfter (sizes : List (Option Size)) (start : Size) (kid : EntryId) (end : Size) : Type 0 where
  pub size : Size
  pub found : slice_get sizes kid.0 ≡ Some (Some size)
  pub nodes : end.nodes ≡ start.nodes + size.nodes
  pub memories : end.memories ≡ start.memories + size.memories

-- what is before instance i, where so much is before the first instance
pub record Reaches (node memory : ℕ) (kids : ℕ → Tree) (i : ℕ) (end : Size) : Type 0 where
  pub nodes : end.nodes ≡ node + sum_to (λ j. total nodes_in (kids j)) i
  pub memories : end.memories ≡ memory + sum_to (λ j. total memories_in (kids j)) i
