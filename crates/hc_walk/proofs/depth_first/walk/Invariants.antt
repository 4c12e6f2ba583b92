use Rattle.hc_walk.specs.VertexId.{vertices_of}
use Rattle.hc_walk.specs.Walking.{IsWalking, steps_left}
use Rattle.hc_walk.proofs.depth_first.walk.Given as goal

abbrev pub invariant-walk : goal.invariant-walk
invariant-walk l = IsWalking l.circuit l.search.marks (vertices_of l.search.met.items) l.search.waiting

abbrev pub decreases-walk : goal.decreases-walk
decreases-walk l = steps_left l.circuit l.search.marks l.search.waiting
