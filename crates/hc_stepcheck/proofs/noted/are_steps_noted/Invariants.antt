use Rattle.std.proofs.Common.{◌≡◌, ℕ, ◌<◌}
use Rattle.std.specs.Prelude.{slice_get, Some}
use Rattle.hc_steps.specs.Plan.{Step, steps_at}
use Rattle.hc_stepcheck.specs.Checked.{IsStepNoted}
use Rattle.hc_stepcheck.proofs.noted.are_steps_noted.Given as goal

abbrev pub invariant-steps : goal.invariant-steps
invariant-steps l = (k : ℕ) → k < l.s → (x : Step) → slice_get (steps_at l.plan.parts l.part) k ≡ Some x → IsStepNoted l.plan l.part x
