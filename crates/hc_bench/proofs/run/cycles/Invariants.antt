use Rattle.std.proofs.Common.{◌+◌, ◌≤◌, [], ◌∷◌}
use Rattle.hc_bench.specs.declared.kinds.Step.TheVariants.{Cycle}
use Rattle.hc_bench.specs.Playing.{Plays}
use Rattle.hc_bench.proofs.run.cycles.Given as goal

abbrev pub invariant-ticks : goal.invariant-ticks
invariant-ticks g l = record {
  plays : Plays l.outputs (g.S.Sim.runs l.initial.sim) l.count (Cycle l.done ∷ []) (g.S.Sim.runs l.sim) (l.count + l.done) (g.K.Sink.taken l.initial.to)
      (g.K.Sink.taken l.to) l.initial.waiting l.waiting;
  never_falls : g.K.Sink.faults l.initial.to ≤ g.K.Sink.faults l.to;
}
