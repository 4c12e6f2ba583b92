use Rattle.std.proofs.Common.{◌≡◌, List, length, subst, arith}
use Rattle.hc_steps.specs.Plan.{Part}
use Rattle.hc_stepcheck.specs.Checked.{AreStepsNoted}
use Rattle.hc_steps.proofs.Lists.{next}
use Rattle.hc_stepcheck.proofs.Covering.{plan_noted}
use Rattle.hc_stepcheck.proofs.noted.is_noted.Goals as goal

pub each-preserved : goal.each-preserved
each-preserved c = next (AreStepsNoted c.args.plan.now) c.each.j c.each.invariant (c.are_steps_noted.ensures c.if-are_steps_noted.true)

pub returns : goal.returns
returns c = λ t.
    plan_noted c.args.plan.now c.in-Some.count c.each.j (subst (λ (z : List Part). c.in-Some.count ≡ length z) c.parts.ensures c.in-Some.ensures) (omega (arith, c.each-test.false)) c.each.invariant
