use Rattle.std.proofs.Common.{◌≡◌, ◌+◌, length}
use Rattle.hc_layout.specs.Up.{AreRunners}
use Rattle.hc_layout.proofs.up.push_kids.Given as goal

abbrev pub invariant-kids : goal.invariant-kids
invariant-kids l = AreRunners l.fn.db.entries l.plans l.fn.layout l.up × (length l.up ≡ length l.fn.up + l.i)
