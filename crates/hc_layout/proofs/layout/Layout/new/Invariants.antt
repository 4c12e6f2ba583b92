use Rattle.std.proofs.Common.{◌≡◌, length}
use Rattle.hc_layout.proofs.Laid.{IsUnder}
use Rattle.hc_layout.proofs.layout.Layout.new.Given as goal

abbrev pub invariant-instances : goal.invariant-instances
invariant-instances l = IsUnder l.db.entries l.fn.top l.entries.items l.first.items × (length l.first.items ≡ l.p)
