use Rattle.std.proofs.Common.{◌≡◌, drop, map}
use Rattle.hc_unfold.specs.Gives.{Grows}
use Rattle.hc_unfold.specs.Names.{AreKnown}
use Rattle.hc_statements.specs.Connections.{FitPorts}
use Rattle.hc_statements.specs.Unrolled.{connection}
use Rattle.hc_statements.specs.Instances.{connections}
use Rattle.hc_statements.proofs.instances.connections.Given as goal

-- the connections that are left give what all give
abbrev pub invariant-conns : goal.invariant-conns
invariant-conns l = record {
  so_far : connections l.ins l.done (map (connection l.env) (drop l.conn-index l.conns)) l.state ≡ connections l.ins l.fn.done (map (connection l.env) l.conns) l.fn.state;
  known : AreKnown l.state.graph l.state.names;
  grows : Grows l.fn.state.graph l.state.graph;
  names : l.state.names ≡ l.fn.state.names;
  fit : FitPorts l.state.graph l.ins l.done;
}
