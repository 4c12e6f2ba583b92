-- What the flat graph reaches is reached.
use Rattle.std.proofs.Common.{ℕ, List}
use Rattle.hc_signal.specs.Graph.{Vertex, node, mem, Reached, output, further}
use Rattle.hc_signal.specs.Tree.{Tree}
use Rattle.hc_signal.specs.Occurrences as step
use Rattle.hc_signal.specs.Occurrences.{graph_at, IsReachedPath}
use Rattle.hc_signal.specs.FlatGraph as flat
use Rattle.hc_signal.specs.FlatGraph.{FlatReached}
use Rattle.hc_paths.proofs.Composed.{step_reached}

pub flat_reached : (t : Tree) {path : List ℕ} {p : Vertex} → FlatReached t path p → IsReachedPath t path × Reached (graph_at t path) p
flat_reached t {p = p} (flat.output h) = (tt, output p h)
flat_reached t (flat.to_node {p = p} {n = n} r h) = (let x : _ = flat_reached t r in (x.0, further p (node n) x.1 h))
flat_reached t (flat.to_mem {p = p} {m = m} r h) = (let x : _ = flat_reached t r in (x.0, further p (mem m) x.1 h))
flat_reached t (flat.down port r y o) = step_reached t (step.down port y o) (flat_reached t r)
flat_reached t (flat.up port r y o) = step_reached t (step.up port y o) (flat_reached t r)
