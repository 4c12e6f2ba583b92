use Rattle.std.proofs.Common.{◌≡◌, ℕ, ◌<◌}
use Rattle.std.specs.Prelude.{slice_get, Some}
use Rattle.hc_steps.specs.Plan.{Step, steps_at}
use Rattle.hc_stepcheck.specs.Checked.{IsReadyAt}
use Rattle.hc_stepcheck.proofs.ready.are_ready.Given as goal

abbrev pub invariant-steps : goal.invariant-steps
invariant-steps l = (k : ℕ) → k < l.s → (x : Step) → slice_get (steps_at l.site.plan.now.parts l.part) k ≡ Some x
    → IsReadyAt l.site.db.now.entries l.site.plans.now l.site.form.now l.site.plan.now.parts l.part k x
