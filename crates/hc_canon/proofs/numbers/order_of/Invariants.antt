use Rattle.std.proofs.Common.{◌≡◌, ◌++◌, drop}
use Rattle.hc_canon.specs.Numbering.{nodes_met, memories_met, instances_met}
use Rattle.hc_walk.specs.VertexId.{vertices_of}
use Rattle.hc_canon.proofs.numbers.order_of.Given as goal

abbrev pub invariant-vertices : goal.invariant-vertices
invariant-vertices l = record {
  nodes : l.order.nodes.items ++ nodes_met l.circuit (vertices_of (drop l.vertex-index l.met)) ≡ nodes_met l.circuit (vertices_of l.met);
  memories : l.order.memories.items ++ memories_met (vertices_of (drop l.vertex-index l.met)) ≡ memories_met (vertices_of l.met);
  instances : l.order.instances.items ++ instances_met (vertices_of (drop l.vertex-index l.met)) ≡ instances_met (vertices_of l.met);
}
