use Rattle.std.proofs.lemmas.Result.{on_ok_weaker}
use Rattle.hc_workload.proofs.Joining.{join}
use Rattle.hc_workload.proofs.Pieces.{drawn_leaf, drawn_of_level}
use Rattle.hc_workload.proofs.levels.push_drawn_circuit.Goals as goal

pub returns-then-level-eq0 : goal.returns-then-level-eq0
returns-then-level-eq0 c =
    on_ok_weaker c.push_below.result (λ h. drawn_leaf c.args.level c.args.draft.now c.push_below.new.self c.if-level-eq0.true (join c.in_ok-push.ensures h)) c.push_below.ensures

pub returns : goal.returns
returns c =
    on_ok_weaker c.push_below-2.result
    (λ h. drawn_of_level c.args.level c.args.draft.now c.push_below-2.new.self c.if-level-eq0.false (join (join (join c.in_ok-push-2.ensures c.in_ok-push_number.ensures) c.in_ok-push-3.ensures) h)) c.push_below-2.ensures
