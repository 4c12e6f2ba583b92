use Rattle.std.proofs.Common.{◌≡◌, sum_by, take, ◌≤◌, ◌*◌}
use Rattle.hc_bench.specs.Steps as spec
use Rattle.hc_summary.proofs.counts.cycles.Given as goal

abbrev pub invariant-steps : goal.invariant-steps
invariant-steps l = record {
  so_far : l.total ≡ sum_by spec.cycles_of (take l.step-index l.steps);
  few : l.total ≤ l.step-index * 4294967295;
}
