use Rattle.std.proofs.lemmas.Result.{on_ok_weaker}
use Rattle.hc_workload.proofs.Joining.{join}
use Rattle.hc_workload.proofs.Pieces.{first_operand, later_operand}
use Rattle.hc_workload.proofs.leaves.push_earlier.Goals as goal

pub returns-then-place-eq0 : goal.returns-then-place-eq0
returns-then-place-eq0 c = on_ok_weaker c.push.result (first_operand c.args.place c.args.draft.now c.push.new.self c.if-place-eq0.true) c.push.ensures

pub returns : goal.returns
returns c =
    on_ok_weaker c.push-3.result
    (λ h. later_operand c.args.place c.args.draft.now c.push-3.new.self c.if-place-eq0.false (join (join c.in_ok-push.ensures c.in_ok-push_number.ensures) h)) c.push-3.ensures
