use Rattle.std.proofs.Common.{◌≤◌, drop, flat_map}
use Rattle.hc_outside.specs.Moves.{AppendsUpTo}
use Rattle.hc_cli.specs.FaultLine.{step_text}
use Rattle.hc_cli.proofs.fault_line.write_steps.Given as goal

abbrev pub invariant-steps : goal.invariant-steps
invariant-steps g l = record {
  so_far : AppendsUpTo (g.K.Sink.taken l.initial.to) (g.K.Sink.taken l.to) (flat_map step_text l.steps) (flat_map step_text (drop l.step-index l.steps));
  never_falls : g.K.Sink.faults l.initial.to ≤ g.K.Sink.faults l.to;
}
