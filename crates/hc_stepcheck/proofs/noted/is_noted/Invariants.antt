use Rattle.std.proofs.Common.{ℕ, ◌<◌}
use Rattle.hc_stepcheck.specs.Checked.{AreStepsNoted}
use Rattle.hc_stepcheck.proofs.noted.is_noted.Given as goal

abbrev pub invariant-each : goal.invariant-each
invariant-each l = (k : ℕ) → k < l.j → AreStepsNoted l.plan k
