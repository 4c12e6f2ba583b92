use Rattle.std.proofs.Common.{sym, subst}
use Rattle.hc_steps.specs.declared.step.Step.{Step}
use Rattle.hc_stepcheck.specs.Checked.{IsListed}
use Rattle.hc_steps.specs.Views.{step_view}
use Rattle.hc_stepcheck.proofs.listed.is_listed.Goals as goal

pub returns-in-Make : goal.returns-in-Make
returns-in-Make c = λ t.
    subst (λ (s : Step). IsListed c.args.site.now.db.now.entries c.args.site.now.plans.now c.args.site.now.form.now c.args.site.now.plan.now c.args.part (step_view s))
    (sym c.in-Make.is) (c.is_make_listed.ensures t)
