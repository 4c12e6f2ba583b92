use Rattle.hc_workload.specs.Workload.{turn}
use Rattle.hc_workload.proofs.Pieces.{none_yet, one_more}
use Rattle.hc_workload.proofs.text.push_turns.Goals as goal

pub turns-init : goal.turns-init
turns-init c = none_yet (λ _. turn) c.args.draft.now

pub turns-preserved : goal.turns-preserved
turns-preserved c = one_more (λ _. turn) c.turns.counter c.args.draft.now _ _ c.turns.invariant c.in_ok-push_turn.ensures
