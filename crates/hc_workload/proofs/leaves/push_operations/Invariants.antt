use Rattle.hc_workload.specs.Fills.{Fills}
use Rattle.hc_workload.specs.Template.{each}
use Rattle.hc_workload.specs.Workload.{operation_line}
use Rattle.hc_workload.proofs.leaves.push_operations.Given as goal

abbrev pub invariant-places : goal.invariant-places
invariant-places l = Fills (each l.place operation_line) l.initial.draft l.draft
