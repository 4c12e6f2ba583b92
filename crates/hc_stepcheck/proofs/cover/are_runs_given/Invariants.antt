use Rattle.std.proofs.Common.{ℕ, ◌<◌}
use Rattle.hc_steps.specs.Plan.{IsGiven, ran}
use Rattle.hc_stepcheck.proofs.cover.are_runs_given.Given as goal

abbrev pub invariant-runs : goal.invariant-runs
invariant-runs l = (k : ℕ) → k < l.part → IsGiven l.site.plan.now.parts (ran l.it.0 k)
