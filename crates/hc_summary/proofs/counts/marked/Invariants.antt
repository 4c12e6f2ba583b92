use Rattle.std.proofs.Common.{◌≡◌, count_by, take, ◌≤◌}
use Rattle.hc_summary.proofs.counts.marked.Given as goal

abbrev pub invariant-marks : goal.invariant-marks
invariant-marks l = record {
  so_far : l.count ≡ count_by (λ b. b) (take l.mark-index l.marks);
  few : l.count ≤ l.mark-index;
}
