-- The vertices that the program's numbers stand for.
use Rattle.std.specs.Prelude.{List, map}
use Rattle.hc_signal.specs.Graph.{Vertex, node, mem, inst}
use Rattle.hc_walk.specs.declared.vertex.VertexId.{VertexId}
use Rattle.hc_walk.specs.declared.vertex.VertexId.TheVariants.{Node, Memory, Instance}

abbrev pub vertex_of : VertexId → Vertex
vertex_of (Node id) = node id.0
vertex_of (Memory id) = mem id.0
vertex_of (Instance id) = inst id.0

abbrev pub vertices_of : List VertexId → List Vertex
vertices_of ids = map vertex_of ids
