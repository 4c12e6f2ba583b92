use Rattle.std.proofs.Common.{◌≡◌, map, drop}
use Rattle.hc_signal.specs.Builds.{AreNodes}
use Rattle.hc_unfold.specs.Gives.{Grows}
use Rattle.hc_unfold.specs.Names.{AreKnown}
use Rattle.hc_unfold.specs.Signals.{signal, signals}
use Rattle.hc_unfold.specs.Nodes.{nodes_of}
use Rattle.hc_unfold.proofs.Lists.{nodes_onto}
use Rattle.hc_unfold.proofs.signals.+draw.Given as goal

-- the nodes so far, and those of the signals that are left, are all
abbrev pub invariant-draw_all-sigs : goal.invariant-draw_all-sigs
invariant-draw_all-sigs l = record {
  drawn : nodes_onto l.nodes.items (nodes_of l.names (signals (map (signal l.env) (drop l.sig-index l.sigs))) l.builder) ≡ nodes_of l.names (signals (map (signal l.env) l.sigs)) l.fn.builder;
  grows : Grows l.fn.builder l.builder;
  known : AreKnown l.builder l.names;
  nodes : AreNodes l.builder l.nodes.items;
}
