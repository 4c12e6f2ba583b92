use Rattle.std.proofs.Common.{◌≡◌, List, length, subst, arith}
use Rattle.hc_steps.specs.Plan.{Part, steps_at}
use Rattle.hc_stepcheck.proofs.Covering.{listed_in}
use Rattle.hc_stepcheck.proofs.listed.are_listed_in.Goals as goal

pub returns : goal.returns
returns c = λ t.
    listed_in c.args.site.now.db.now.entries c.args.site.now.plans.now c.args.site.now.form.now c.args.site.now.plan.now c.args.part c.in-Some.count c.steps.s
    (subst (λ (z : List Part). c.in-Some.count ≡ length (steps_at z c.args.part)) c.parts.ensures c.in-Some.ensures) (omega (arith, c.steps-test.false)) c.steps.invariant
