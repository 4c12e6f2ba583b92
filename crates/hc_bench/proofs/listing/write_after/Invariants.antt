use Rattle.std.proofs.Common.{◌≤◌, drop}
use Rattle.hc_bench.specs.Listing.{values_text}
use Rattle.hc_bench.proofs.Pieces.{QueuesUpTo}
use Rattle.hc_bench.proofs.listing.write_after.Given as goal

abbrev pub invariant-outputs : goal.invariant-outputs
invariant-outputs g l = record {
  so_far : QueuesUpTo (g.K.Sink.taken l.initial.to) (g.K.Sink.taken l.to) l.initial.waiting l.waiting (values_text l.outputs (g.S.Sim.runs l.sim).after)
      (values_text (drop l.place l.outputs) (drop l.place (g.S.Sim.runs l.sim).after));
  never_falls : g.K.Sink.faults l.initial.to ≤ g.K.Sink.faults l.to;
}
