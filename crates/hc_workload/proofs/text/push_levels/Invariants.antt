use Rattle.hc_workload.specs.Fills.{Fills}
use Rattle.hc_workload.specs.Template.{each}
use Rattle.hc_workload.specs.Workload.{level_circuits}
use Rattle.hc_workload.proofs.text.push_levels.Given as goal

abbrev pub invariant-levels : goal.invariant-levels
invariant-levels l = Fills (each l.level level_circuits) l.initial.draft l.draft
