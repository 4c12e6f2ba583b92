use Rattle.std.proofs.Common.{◌≡◌}
use Rattle.std.specs.List.{range_with_len}
use Rattle.hc_layout.proofs.up.top_row.Given as goal

abbrev pub invariant-parts : goal.invariant-parts
invariant-parts l = l.row.items ≡ range_with_len 0 l.part
