use Rattle.std.proofs.Common.{◌≤◌, ◌-◌, vec_len}
use Rattle.std.specs.Io.KnownBytes.{Consumes}
use Rattle.hc_outside.proofs.all.read_all.Given as goal

abbrev pub invariant-loop-count : goal.invariant-loop-count
invariant-loop-count g l = record {
  so_far : Consumes (g.S.Source.left l.initial.from) (g.S.Source.left l.from) l.bytes.items;
  within : vec_len l.bytes ≤ l.limit;
  never_falls : g.S.Source.faults l.initial.from ≤ g.S.Source.faults l.from;
}

abbrev pub decreases-loop-count : goal.decreases-loop-count
decreases-loop-count g l = l.limit - vec_len l.bytes
