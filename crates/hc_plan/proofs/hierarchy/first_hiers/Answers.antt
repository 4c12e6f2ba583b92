use Rattle.std.proofs.Common.{ap}
use Rattle.hc_plan.specs.Hierarchies.{views_of}
use Rattle.hc_plan.proofs.HierSteps.{first_as, no_first_hiers, one_first_more}
use Rattle.hc_plan.proofs.hierarchy.first_hiers.Goals as goal

pub places-init : goal.places-init
places-init c = no_first_hiers _ _ _ _ (ap views_of c.new-hiers.ensures.items)

pub hier_at-requires-clause-below : goal.hier_at-requires-clause-below
hier_at-requires-clause-below c = first_as _ _ _ _ _ _ c.as_slice.ensures.value c.places.invariant

pub places-preserved : goal.places-preserved
places-preserved c = one_first_more _ _ _ _ _ _ _ c.places.invariant c.in_ok-hier.ensures c.in_ok-share.ensures
