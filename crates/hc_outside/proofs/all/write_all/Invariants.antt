use Rattle.std.proofs.Common.{◌≤◌, length}
use Rattle.hc_outside.specs.Moves.{AppendsUpTo}
use Rattle.hc_outside.proofs.all.write_all.Given as goal

abbrev pub invariant-loop-rest : goal.invariant-loop-rest
invariant-loop-rest g l = record {
  so_far : AppendsUpTo (g.K.Sink.taken l.initial.to) (g.K.Sink.taken l.to) l.bytes l.rest;
  never_falls : g.K.Sink.faults l.initial.to ≤ g.K.Sink.faults l.to;
}

abbrev pub decreases-loop-rest : goal.decreases-loop-rest
decreases-loop-rest g l = length l.rest
