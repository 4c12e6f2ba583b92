use Rattle.std.proofs.lemmas.Result.{on_ok_weaker}
use Rattle.hc_workload.specs.Workload.{turn}
use Rattle.hc_workload.proofs.Joining.{join}
use Rattle.hc_workload.proofs.text.push_turn.Goals as goal

pub returns : goal.returns
unfolding turn
returns c =
    on_ok_weaker c.push-3.result (join (join (join (join c.in_ok-push.ensures c.in_ok-push_below.ensures) c.in_ok-push-2.ensures) c.in_ok-push_below-2.ensures)) c.push-3.ensures
