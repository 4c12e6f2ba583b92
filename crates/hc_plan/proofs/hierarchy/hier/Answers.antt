use Rattle.hc_plan.proofs.HierSteps.{made_over}
use Rattle.hc_plan.proofs.hierarchy.hier.Goals as goal

pub returns : goal.returns
returns c = made_over _
