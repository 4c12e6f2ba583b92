use Rattle.std.proofs.Common.{◌≡◌, ◌≤◌, drop}
use Rattle.hc_bench.specs.Steps.{steps_from}
use Rattle.hc_bench.proofs.BenchSteps.{onto}
use Rattle.hc_bench.proofs.make.bench.Given as goal

-- the steps so far and those of the lines that are left are all
abbrev pub invariant-lines : goal.invariant-lines
invariant-lines l = record {
  so_far : onto l.steps (steps_from l.ports.inputs l.count (drop l.line-index l.line-items)) ≡ steps_from l.ports.inputs 0 l.line-items;
  few : l.count ≤ 1000000;
}
