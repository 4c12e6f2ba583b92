-- The weight of a tree: that of all its circuits.
use Rattle.std.specs.Prelude.{ℕ, zero, suc, ◌+◌, length}
use Rattle.hc_signal.specs.Tree.{Tree, none, tree}
use Rattle.hc_signal.specs.Weight.{graph_weight}

-- the sum of the first n numbers
abbrev pub sum_below : (ℕ → ℕ) → ℕ → ℕ
sum_below f zero = 0
sum_below f (suc n) = sum_below f n + f n

abbrev pub tree_weight : Tree → ℕ
tree_weight none = 0
tree_weight (tree g kids) = graph_weight g + sum_below (λ i. tree_weight (kids i)) (length g.instances)
