use Rattle.hc_plan.specs.Hierarchies.{AreFirstHiers, views_of}
use Rattle.hc_plan.specs.Stepping.{dones_of}
use Rattle.hc_plan.proofs.hierarchy.first_hiers.Given as goal

abbrev pub invariant-places : goal.invariant-places
invariant-places l = AreFirstHiers l.design l.plan.rows (dones_of l.done) l.place (views_of l.hiers.items)
