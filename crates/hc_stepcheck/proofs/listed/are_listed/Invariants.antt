use Rattle.std.proofs.Common.{ℕ, ◌<◌}
use Rattle.hc_stepcheck.specs.Checked.{AreListedIn}
use Rattle.hc_stepcheck.proofs.listed.are_listed.Given as goal

abbrev pub invariant-each : goal.invariant-each
invariant-each l = (k : ℕ) → k < l.j → AreListedIn l.site.db.now.entries l.site.plans.now l.site.form.now l.site.plan.now k
