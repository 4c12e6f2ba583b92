use Rattle.std.proofs.Common.{◌≡◌, ◌++◌}
use Rattle.std.specs.Slice.Iter.{iter_rest}
use Rattle.std.specs.Iterator.Adapters.{rev_source}
use Rattle.hc_signal.specs.Graph.{fanin_of_writes}
use Rattle.hc_walk.proofs.waiting.Waiting.push_writes.Given as goal

-- what is left, before what waits
abbrev pub invariant-back : goal.invariant-back
invariant-back l = fanin_of_writes (iter_rest (rev_source l.write-iterator)) ++ l.self ≡ fanin_of_writes l.writes ++ l.initial.self
