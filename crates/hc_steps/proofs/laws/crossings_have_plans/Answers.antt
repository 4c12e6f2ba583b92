use Rattle.hc_steps.proofs.CrossingPlans.{child_is, parent_is}
use Rattle.hc_steps.proofs.laws.crossings_have_plans.Goals as goal

pub returns : goal.returns
returns c = record {
  child = child_is;
  parent = parent_is;
}
