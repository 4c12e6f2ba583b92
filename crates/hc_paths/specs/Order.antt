-- An order of what the outputs of a circuit reach.
use Rattle.std.specs.Prelude.{◌↔◌, ℕ, List, [], ◌∷◌}
use Rattle.hc_signal.specs.Member.{Has}
use Rattle.hc_signal.specs.declared.signal.NodeId.{NodeId}
use Rattle.hc_signal.specs.Graph.{Graph, node, Reached}
use Rattle.hc_walk.specs.declared.vertex.VertexId.{VertexId}
use Rattle.hc_walk.specs.declared.vertex.VertexId.TheVariants.{Node, Memory, Instance}
use Rattle.hc_paths.specs.Digraph.{AllDifferent, IsSorted}
use Rattle.hc_paths.specs.Fanin.{local_fanin}

-- the nodes among vertices
abbrev pub nodes_among : List VertexId → List NodeId
nodes_among [] = []
nodes_among (Node id ∷ vertices) = id ∷ nodes_among vertices
nodes_among (Memory id ∷ vertices) = nodes_among vertices
nodes_among (Instance id ∷ vertices) = nodes_among vertices

-- What is reached, each node once, the last one first: each before those that it is computed from.
pub record IsLocalOrder (g : Graph) (masks : List (List ℕ)) (order : List NodeId) : Type 0 where
  pub all : (n : NodeId) → Has order n ↔ Reached g (node n.0)
  pub different : AllDifferent order
  pub sorted : IsSorted (local_fanin g masks) order
