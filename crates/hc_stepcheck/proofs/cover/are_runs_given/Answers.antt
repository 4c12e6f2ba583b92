use Rattle.std.proofs.Common.{ℕ, List, subst, arith}
use Rattle.hc_steps.specs.Plan.{Part, IsGiven, ran}
use Rattle.hc_steps.proofs.Lists.{next}
use Rattle.hc_stepcheck.proofs.Covering.{runs_given}
use Rattle.hc_stepcheck.proofs.cover.are_runs_given.Goals as goal

pub runs-preserved : goal.runs-preserved
runs-preserved c =
    next (λ (k : ℕ). IsGiven c.args.site.now.plan.now.parts (ran c.args.it.0 k)) c.runs.part c.runs.invariant
    (subst (λ (z : List Part). IsGiven z (ran c.args.it.0 c.runs.part)) c.parts-in-runs.ensures (c.is_given.ensures c.if-is_given.true))

pub returns : goal.returns
returns c = λ t.
    runs_given c.args.site.now.plans.now c.args.site.now.form.now c.args.site.now.plan.now.parts c.args.it.0 c.in-Some.plan.now c.parts.result.now c.in-Some-count_parts.count c.runs.part
    c.in-Some.ensures c.parts.ensures c.in-Some-count_parts.ensures (omega (arith, c.runs-test.false)) c.runs.invariant
