use Rattle.std.proofs.Common.{◌≡◌, replicate, None}
use Rattle.hc_workers.proofs.levels.none_yet.Given as goal

abbrev pub invariant-count : goal.invariant-count
invariant-count l = l.outs.items ≡ replicate l.counter None
