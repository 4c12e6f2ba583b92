use Rattle.hc_plan.proofs.HierSteps.{view_at}
use Rattle.hc_plan.proofs.hierarchy.shared_at.Goals as goal

pub returns : goal.returns
returns c = view_at c.args.hiers.now c.args.place _ c.in_ok-shared.shared c.requires c.index-hiers-place.is c.in_ok-shared.ensures
