use Rattle.std.proofs.Common.{ap, length}
use Rattle.hc_plan.proofs.HierSteps.{first_as, hier_of_last}
use Rattle.hc_plan.proofs.hierarchy.hier_of.Goals as goal

pub hier_at-requires-clause-below : goal.hier_at-requires-clause-below
hier_at-requires-clause-below c = first_as _ _ _ _ _ _ c.as_slice-2.ensures.value c.in_ok-below.ensures

pub returns : goal.returns
returns c = hier_of_last _ _ _ _ _ (ap length c.as_slice.ensures) c.hier_at.ensures
