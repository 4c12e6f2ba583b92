use Rattle.std.proofs.Common.{◌+◌, ◌≤◌, take, drop}
use Rattle.std.specs.Prelude.{sum_by}
use Rattle.hc_bench.specs.Playing.{Plays}
use Rattle.hc_bench.specs.Steps.{cycles_of}
use Rattle.hc_bench.proofs.run.play.Given as goal

abbrev pub invariant-steps : goal.invariant-steps
invariant-steps g l = record {
  plays : Plays l.outputs (g.S.Sim.runs l.initial.sim) 0 (take l.step-index l.step-items) (g.S.Sim.runs l.sim) l.count (g.K.Sink.taken l.initial.to) (g.K.Sink.taken l.to) l.initial.waiting l.waiting;
  few : l.count + sum_by cycles_of (drop l.step-index l.step-items) ≤ 1000000;
  never_falls : g.K.Sink.faults l.initial.to ≤ g.K.Sink.faults l.to;
}
