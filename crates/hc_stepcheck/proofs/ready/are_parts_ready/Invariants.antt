use Rattle.std.proofs.Common.{ℕ, ◌<◌}
use Rattle.hc_stepcheck.specs.Checked.{IsPartReady}
use Rattle.hc_stepcheck.proofs.ready.are_parts_ready.Given as goal

abbrev pub invariant-parts : goal.invariant-parts
invariant-parts l = (k : ℕ) → k < l.j → IsPartReady l.site.db.now.entries l.site.plans.now l.site.form.now l.site.plan.now.parts k
