use Rattle.std.proofs.Common.{ℕ, ◌<◌}
use Rattle.hc_signal.specs.Graph.{Graph}
use Rattle.hc_steps.specs.Plan.{ran, IsBefore}
use Rattle.hc_steps.specs.Views.{IsKnownAt}
use Rattle.hc_stepcheck.proofs.ready.have_run.Given as goal

abbrev pub invariant-kids : goal.invariant-kids
invariant-kids l = (g : Graph) (k : ℕ) → k < l.b → IsBefore l.kid l.part k → IsKnownAt g l.parts l.at.part l.at.step (ran l.it.0 k)
