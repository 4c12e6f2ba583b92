use Rattle.std.proofs.Common.{◌≡◌, ℕ, ◌<◌}
use Rattle.std.specs.Prelude.{slice_get, Some}
use Rattle.hc_steps.specs.Compiled.{PlanView, IsNoted}
use Rattle.hc_stepcheck.proofs.noted.are_noted.Given as goal

abbrev pub invariant-each : goal.invariant-each
invariant-each l = (k : ℕ) (p : PlanView) → k < l.plan-index → slice_get l.plans k ≡ Some p → IsNoted p
