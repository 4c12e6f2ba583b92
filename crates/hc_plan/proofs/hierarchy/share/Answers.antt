use Rattle.hc_plan.proofs.HierSteps.{shared_more}
use Rattle.hc_plan.proofs.hierarchy.share.Goals as goal

pub returns-in-Ok : goal.returns-in-Ok
returns-in-Ok c = shared_more _ _ _ _ c.in_ok-push-in-Ok.ensures.items c.in-Ok.ensures.ok
