use Rattle.hc_workload.specs.Fills.{Fills}
use Rattle.hc_workload.specs.Template.{each}
use Rattle.hc_workload.specs.Workload.{turn}
use Rattle.hc_workload.proofs.text.push_turns.Given as goal

abbrev pub invariant-turns : goal.invariant-turns
invariant-turns l = Fills (each l.counter (λ _. turn)) l.initial.draft l.draft
