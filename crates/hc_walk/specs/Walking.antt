-- What a walk under way keeps, and how far it is from its end.
use Rattle.std.specs.Prelude.{◌≡◌, ℕ, suc, ◌+◌, Bool, true, false, List, [], ◌∷◌, length, replicate, reverse, slice_index_or, slice_set}
use Rattle.hc_signal.specs.Member.{Has}
use Rattle.hc_signal.specs.Graph.{Graph, Vertex, node, mem, inst, fanin, Reached}
use Rattle.hc_walk.specs.declared.vertex.VertexId.{VertexId}
use Rattle.hc_walk.specs.VertexId.{vertices_of}
use Rattle.hc_walk.specs.DepthFirst.{DepthFirst, NumbersTo}

-- a stack as the list of what waits: the last item waits first
unfoldable pub top_first : List VertexId → List Vertex
top_first items = reverse (vertices_of items)

-- a mark for each node, memory and instance of a graph
pub record Marking : Type 0 where
  pub nodes : List Bool
  pub memories : List Bool
  pub instances : List Bool

abbrev pub no_marks : Graph → Marking
no_marks g = record { nodes = replicate (length g.nodes) false; memories = replicate (length g.memories) false; instances = replicate (length g.instances) false }

abbrev pub is_marked : Marking → Vertex → Bool
is_marked marks (node n) = slice_index_or marks.nodes n false
is_marked marks (mem m) = slice_index_or marks.memories m false
is_marked marks (inst i) = slice_index_or marks.instances i false

abbrev pub with_mark : Marking → Vertex → Marking
with_mark marks (node n) = record marks { nodes = slice_set marks.nodes n true }
with_mark marks (mem m) = record marks { memories = slice_set marks.memories m true }
with_mark marks (inst i) = record marks { instances = slice_set marks.instances i true }

-- A walk under way: those that were met are marked, and what the rest of the walk ends with is what the walk
-- from the outputs ends with.
pub record IsWalking (g : Graph) (marks : Marking) (met waiting : List Vertex) : Type 0 where
  pub to_end : (end : List Vertex) → DepthFirst g met waiting end → NumbersTo g end
  pub marked_met : (v : Vertex) → is_marked marks v ≡ true → Has met v
  pub met_marked : (v : Vertex) → Has met v → is_marked marks v ≡ true
  pub reached : (v : Vertex) → Has waiting v → Reached g v
  pub nodes : length marks.nodes ≡ length g.nodes
  pub memories : length marks.memories ≡ length g.memories
  pub instances : length marks.instances ≡ length g.instances

-- from the vertex a on: for each without a mark one step, and one for each vertex of its fan-in
abbrev pub steps_of : (ℕ → Vertex) → Graph → ℕ → List Bool → ℕ
steps_of vertex g a [] = 0
steps_of vertex g a (true ∷ marks) = steps_of vertex g (suc a) marks
steps_of vertex g a (false ∷ marks) = suc (length (fanin g (vertex a)) + steps_of vertex g (suc a) marks)

-- No walk takes more steps: one for each vertex that waits, and those of what has no mark.
unfoldable pub steps_left : Graph → Marking → List Vertex → ℕ
steps_left g marks waiting = length waiting + (steps_of node g 0 marks.nodes + steps_of mem g 0 marks.memories + steps_of inst g 0 marks.instances)
