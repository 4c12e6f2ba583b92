use Rattle.std.proofs.Common.{◌≡◌, ◌≤◌, ◌+◌, drop}
use Rattle.std.specs.Prelude.{sum}
use Rattle.hc_signal.specs.Builds.{widths_at}
use Rattle.hc_signal.proofs.builder.Builder.cat_width.Given as goal

-- the width so far and the widths that are left
abbrev pub invariant-loop-part : goal.invariant-loop-part
invariant-loop-part l = record {
  all : l.width + sum (widths_at l.self (drop l.part-index l.parts)) ≡ sum (widths_at l.self l.parts);
  some : l.part-index ≤ l.width;
  few : l.width ≤ 128;
}
