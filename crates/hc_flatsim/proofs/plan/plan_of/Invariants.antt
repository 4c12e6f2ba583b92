use Rattle.std.proofs.Common.{◌≡◌, ◌++◌, drop}
use Rattle.hc_flatsim.specs.Plan.{plan_of}
use Rattle.hc_flatsim.proofs.plan.plan_of.Given as goal

abbrev pub invariant-order : goal.invariant-order
invariant-order l = l.steps.items ++ plan_of l.circuit (drop l.id-index l.order) ≡ plan_of l.circuit l.order
