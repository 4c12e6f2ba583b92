use Rattle.std.proofs.Common.{◌≡◌, ℕ, List, length, subst, arith}
use Rattle.std.specs.Prelude.{slice_get, Some}
use Rattle.hc_steps.specs.Plan.{Part, Step, steps_at}
use Rattle.hc_stepcheck.specs.Checked.{IsStepNoted}
use Rattle.hc_steps.proofs.Lists.{next}
use Rattle.hc_stepcheck.proofs.Covering.{steps_noted}
use Rattle.hc_stepcheck.proofs.noted.are_steps_noted.Goals as goal

pub steps-preserved : goal.steps-preserved
steps-preserved c = next (λ (k : ℕ). (x : Step) → slice_get (steps_at c.args.plan.now.parts c.args.part) k ≡ Some x → IsStepNoted c.args.plan.now c.args.part x) c.steps.s
    c.steps.invariant (c.is_noted_at.ensures c.if-is_noted_at.true)

pub returns : goal.returns
returns c = λ t.
    steps_noted c.args.plan.now c.args.part c.in-Some.count c.steps.s
    (subst (λ (z : List Part). c.in-Some.count ≡ length (steps_at z c.args.part)) c.parts.ensures c.in-Some.ensures) (omega (arith, c.steps-test.false)) c.steps.invariant
