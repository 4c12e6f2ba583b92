-- The depth-first walk from the outputs of a graph.
use Rattle.std.specs.Prelude.{List, [], ◌∷◌, ◌++◌}
use Rattle.hc_signal.specs.Member.{Has}
use Rattle.hc_signal.specs.Graph.{Graph, Vertex, fanin, nodes_of}

-- Where the vertices of met were met before, the walk over a list ends with those of end, in the order in
-- which they were first met. A vertex that was met is passed over. A new one is met, then its fan-in is walked,
-- then the rest of the list.
pub data DepthFirst (g : Graph) : (met list end : List Vertex) → Type 0 where
  over : {met : List Vertex} → DepthFirst g met [] met
  again : {met rest end : List Vertex} {v : Vertex} → Has met v → DepthFirst g met rest end → DepthFirst g met (v ∷ rest) end
  new : {met inner rest end : List Vertex} {v : Vertex} → ¬ Has met v → DepthFirst g (met ++ v ∷ []) (fanin g v) inner → DepthFirst g inner rest end → DepthFirst g met (v ∷ rest) end

-- The walk over the outputs meets these vertices, in this order.
abbrev pub NumbersTo : Graph → List Vertex → Type 0
NumbersTo g end = DepthFirst g [] (nodes_of g.outputs) end
