use Rattle.std.proofs.Common.{ℕ, ◌<◌}
use Rattle.hc_steps.specs.Plan.{IsGiven, passed}
use Rattle.hc_stepcheck.proofs.cover.are_inputs_given.Given as goal

abbrev pub invariant-ports : goal.invariant-ports
invariant-ports l = (k : ℕ) → k < l.port → IsGiven l.site.plan.now.parts (passed l.it.0 k)
