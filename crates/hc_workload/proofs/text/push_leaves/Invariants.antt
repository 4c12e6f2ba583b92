use Rattle.hc_workload.specs.Fills.{Fills}
use Rattle.hc_workload.specs.Template.{each}
use Rattle.hc_workload.specs.Workload.{leaf}
use Rattle.hc_workload.proofs.text.push_leaves.Given as goal

abbrev pub invariant-places : goal.invariant-places
invariant-places l = Fills (each l.place leaf) l.initial.draft l.draft
