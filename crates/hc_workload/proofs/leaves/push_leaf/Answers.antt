use Rattle.std.proofs.lemmas.Result.{on_ok_weaker}
use Rattle.hc_workload.specs.Workload.{leaf}
use Rattle.hc_workload.proofs.Joining.{join}
use Rattle.hc_workload.proofs.leaves.push_leaf.Goals as goal

pub returns : goal.returns
unfolding leaf
returns c =
    on_ok_weaker c.push-4.result (join (join (join (join (join c.in_ok-push.ensures c.in_ok-push_number.ensures) c.in_ok-push-2.ensures) c.in_ok-push-3.ensures) c.in_ok-push_operations.ensures)) c.push-4.ensures
