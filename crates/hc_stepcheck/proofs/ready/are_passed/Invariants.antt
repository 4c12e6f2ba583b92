use Rattle.std.proofs.Common.{ℕ, ◌<◌}
use Rattle.std.specs.Prelude.{IsBitSet}
use Rattle.hc_signal.specs.Graph.{Graph}
use Rattle.hc_steps.specs.Plan.{passed}
use Rattle.hc_steps.specs.Views.{IsKnownAt}
use Rattle.hc_stepcheck.proofs.ready.are_passed.Given as goal

abbrev pub invariant-ports : goal.invariant-ports
invariant-ports l = (g : Graph) (k : ℕ) → k < l.port → IsBitSet l.needs k → IsKnownAt g l.parts l.at.part l.at.step (passed l.it.0 k)
