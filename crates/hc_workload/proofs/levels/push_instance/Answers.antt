use Rattle.std.proofs.lemmas.Result.{on_ok_weaker}
use Rattle.hc_workload.specs.Workload.{instance_line}
use Rattle.hc_workload.proofs.Joining.{join}
use Rattle.hc_workload.proofs.levels.push_instance.Goals as goal

pub returns : goal.returns
unfolding instance_line
returns c =
    on_ok_weaker c.push-3.result (join (join (join (join c.in_ok-push.ensures c.in_ok-push_number.ensures) c.in_ok-push-2.ensures) c.in_ok-push_drawn_circuit.ensures)) c.push-3.ensures
