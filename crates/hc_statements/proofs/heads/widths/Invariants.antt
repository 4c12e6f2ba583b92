use Rattle.std.proofs.Common.{◌≡◌, [], drop, length}
use Rattle.hc_statements.specs.Gives.{AreWidths}
use Rattle.hc_statements.specs.PortWidths.{widths_after}
use Rattle.hc_statements.proofs.HeadSteps.{onto}
use Rattle.hc_statements.proofs.heads.widths.Given as goal

-- the widths so far and those of the heads that are left are all
abbrev pub invariant-heads : goal.invariant-heads
invariant-heads l = record {
  so_far : onto l.widths.items (widths_after l.env l.taken (drop l.head-index l.heads)) ≡ widths_after l.env [] l.heads;
  range : AreWidths l.widths.items;
  count : length l.widths.items ≡ l.head-index;
}
