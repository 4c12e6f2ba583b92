-- Whole trees of checked circuits have flat graphs.
use Rattle.std.proofs.Common.{◌≡◌, ℕ, ◌≤◌, List, [], ◌∷◌, ◌++◌, length, refl, subst, ap, arith}
use Rattle.hc_signal.specs.Checked.{IsChecked}
use Rattle.hc_signal.specs.FlatGraph.{IsFlat}
use Rattle.hc_signal.specs.Lawful.{IsLawful}
use Rattle.hc_signal.specs.Occurrences.{graph_at, tree_at}
use Rattle.hc_signal.specs.Tree.{IsWhole, Tree, graph, kid, none, tree}
use Rattle.hc_flatten.specs.Flattened.{flat_graph}
use Rattle.hc_flatten.specs.Sizes.{memories_in, nodes_in, total}
use Rattle.hc_flatten.proofs.Flat.{is_flat, memories_length, nodes_length}
use Rattle.hc_flatten.proofs.Good.{IsGood}
use Rattle.hc_flatten.proofs.Lawfully.{is_lawful}

-- what is at a path that ends with instance i of the top
tree_from : (t : Tree) (i : ℕ) (path : List ℕ) → tree_at t (path ++ i ∷ []) ≡ tree_at (kid t i) path
tree_from t i [] = refl
tree_from t i (j ∷ path) = ap (λ s. kid s j) (tree_from t i path)

abbrev pub AreAllChecked : Tree → Type 0
AreAllChecked t = (path : List ℕ) → IsWhole (tree_at t path) → IsChecked (graph_at t path)

good_of : (t : Tree) → IsWhole t → AreAllChecked t → IsGood t
good_of none w checked = absurd w
good_of (tree g kids) w checked = (
  w.0,
  checked [] w,
  λ i it e.
      ((w.1 i it e).0, good_of (kids i) (w.1 i it e).1 (λ path. subst (λ s. IsWhole s → IsChecked (graph s)) (tree_from (tree g kids) i path) (checked (path ++ i ∷ [])))),
)

pub flat_exists : (t : Tree) → IsWhole t → AreAllChecked t → IsFlat t (flat_graph t)
flat_exists t w checked = is_flat t (good_of t w checked)

pub flat_lawful : (t : Tree) → IsWhole t → AreAllChecked t → total nodes_in t ≤ 4294967296 → total memories_in t ≤ 4294967296 → IsLawful (flat_graph t)
flat_lawful t w checked few_nodes few_memories =
    let n : length (flat_graph t).nodes ≡ total nodes_in t = nodes_length t in
    let m : length (flat_graph t).memories ≡ total memories_in t = memories_length t in
    is_lawful t (good_of t w checked) (omega (arith, n, few_nodes)) (omega (arith, m, few_memories))
