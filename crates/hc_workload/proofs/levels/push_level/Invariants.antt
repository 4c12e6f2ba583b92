use Rattle.hc_workload.specs.Fills.{Fills}
use Rattle.hc_workload.specs.Template.{each}
use Rattle.hc_workload.specs.Workload.{circuit}
use Rattle.hc_workload.proofs.levels.push_level.Given as goal

abbrev pub invariant-places : goal.invariant-places
invariant-places l = Fills (each l.place (circuit l.level)) l.initial.draft l.draft
