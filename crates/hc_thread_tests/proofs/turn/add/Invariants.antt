use Rattle.std.proofs.Common.{◌≡◌, ◌+◌, ◌-◌, length}
use Rattle.hc_turn.specs.Passes.{mine, share, HoldsNothing, IsOf}
use Rattle.hc_thread_tests.proofs.turn.add.Given as goal

abbrev pub invariant-loop-number : goal.invariant-loop-number
invariant-loop-number g l = IsOf l.lock l.pass × HoldsNothing l.pass × (share l.pass ≡ share l.initial.pass) × (length (mine l.pass) ≡ length (mine l.initial.pass) + (l.number - l.from))
