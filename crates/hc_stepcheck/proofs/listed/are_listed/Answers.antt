use Rattle.std.proofs.Common.{◌≡◌, ℕ, List, length, subst, arith}
use Rattle.hc_steps.specs.Plan.{Part}
use Rattle.hc_stepcheck.specs.Checked.{AreListedIn}
use Rattle.hc_steps.proofs.Lists.{next}
use Rattle.hc_stepcheck.proofs.Covering.{listed_all}
use Rattle.hc_stepcheck.proofs.listed.are_listed.Goals as goal

pub each-preserved : goal.each-preserved
each-preserved c =
    next (λ (k : ℕ). AreListedIn c.args.site.now.db.now.entries c.args.site.now.plans.now c.args.site.now.form.now c.args.site.now.plan.now k) c.each.j c.each.invariant
    (c.are_listed_in.ensures c.if-are_listed_in.true)

pub returns : goal.returns
returns c = λ t.
    listed_all c.args.site.now.db.now.entries c.args.site.now.plans.now c.args.site.now.form.now c.args.site.now.plan.now c.in-Some.count c.each.j
    (subst (λ (z : List Part). c.in-Some.count ≡ length z) c.parts.ensures c.in-Some.ensures) (omega (arith, c.each-test.false)) c.each.invariant
