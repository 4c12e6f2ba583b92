use Rattle.std.proofs.lemmas.Result.{on_ok_weaker}
use Rattle.hc_workload.specs.Workload.{workload_template}
use Rattle.hc_workload.proofs.Joining.{join}
use Rattle.hc_workload.proofs.text.push_workload.Goals as goal

pub returns : goal.returns
unfolding workload_template
returns c =
    on_ok_weaker c.push-2.result (join (join (join (join c.in_ok-push_leaves.ensures c.in_ok-push_levels.ensures) c.in_ok-push.ensures) c.in_ok-push_turns.ensures)) c.push-2.ensures
