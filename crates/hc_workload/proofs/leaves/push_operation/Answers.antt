use Rattle.std.proofs.lemmas.Result.{on_ok_weaker}
use Rattle.hc_workload.specs.Workload.{operation_line}
use Rattle.hc_workload.proofs.Joining.{join}
use Rattle.hc_workload.proofs.leaves.push_operation.Goals as goal

pub returns : goal.returns
unfolding operation_line
returns c =
    on_ok_weaker c.push-5.result (join (join (join (join (join (join (join (join c.in_ok-push.ensures c.in_ok-push_number.ensures) c.in_ok-push-2.ensures) c.in_ok-push_one_of.ensures) c.in_ok-push-3.ensures) c.in_ok-push_earlier.ensures) c.in_ok-push-4.ensures) c.in_ok-push_one_of-2.ensures)) c.push-5.ensures
