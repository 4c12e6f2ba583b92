use Rattle.std.proofs.Common.{◌≡◌, ℕ, List, length, subst, arith}
use Rattle.std.specs.Prelude.{slice_get, Some}
use Rattle.hc_steps.specs.Plan.{Step, Part, steps_at}
use Rattle.hc_stepcheck.specs.Checked.{IsReadyAt}
use Rattle.hc_steps.proofs.Lists.{next}
use Rattle.hc_stepcheck.proofs.Readiness.{part_ready}
use Rattle.hc_stepcheck.proofs.ready.are_ready.Goals as goal

pub steps-preserved : goal.steps-preserved
steps-preserved c =
    next (λ (k : ℕ). (x : Step) → slice_get (steps_at c.args.site.now.plan.now.parts c.args.part) k ≡ Some x
    → IsReadyAt c.args.site.now.db.now.entries c.args.site.now.plans.now c.args.site.now.form.now c.args.site.now.plan.now.parts c.args.part k x)
    c.steps.s c.steps.invariant (c.is_ready_at.ensures c.if-is_ready_at.true)

pub returns : goal.returns
returns c = λ t.
    part_ready c.args.site.now.db.now.entries c.args.site.now.plans.now c.args.site.now.form.now c.args.site.now.plan.now.parts c.args.part c.in-Some.count c.steps.s
    (subst (λ (z : List Part). c.in-Some.count ≡ length (steps_at z c.args.part)) c.parts.ensures c.in-Some.ensures) (omega (arith, c.steps-test.false)) c.steps.invariant
