use Rattle.std.proofs.Common.{ℕ, ◌<◌}
use Rattle.hc_stepcheck.specs.Checked.{AreInputsGiven, AreRunsGiven}
use Rattle.hc_stepcheck.proofs.cover.are_kids_given.Given as goal

abbrev pub invariant-kids : goal.invariant-kids
invariant-kids l = (k : ℕ) → k < l.i → AreInputsGiven l.site.db.now.entries l.site.form.now l.site.plan.now.parts k × AreRunsGiven l.site.plans.now l.site.form.now l.site.plan.now.parts k
