use Rattle.hc_plan.specs.Hierarchies.{views_of}
use Rattle.hc_plan.proofs.HierSteps.{kid_lower, none_found, one_found_more}
use Rattle.hc_plan.proofs.hierarchy.hiers_of.Goals as goal

pub kids-init : goal.kids-init
kids-init c = none_found (views_of c.args.hiers.now) _ c.in_ok-found.ensures

pub shared_at-requires : goal.shared_at-requires
shared_at-requires c = kid_lower _ _ _ c.requires c.kids-test.true

pub kids-preserved : goal.kids-preserved
kids-preserved c =
    one_found_more _ _ _ _ _ _ c.kids-test.true c.kids.invariant c.in_ok-hier.ensures c.in_ok-add.ensures
