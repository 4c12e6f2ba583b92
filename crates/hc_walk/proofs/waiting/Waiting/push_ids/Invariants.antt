use Rattle.std.proofs.Common.{◌≡◌, ◌++◌}
use Rattle.std.specs.Slice.Iter.{iter_rest}
use Rattle.std.specs.Iterator.Adapters.{rev_source}
use Rattle.hc_signal.specs.Graph.{nodes_of}
use Rattle.hc_walk.proofs.waiting.Waiting.push_ids.Given as goal

-- what is left, before what waits
abbrev pub invariant-back : goal.invariant-back
invariant-back l = nodes_of (iter_rest (rev_source l.id-iterator)) ++ l.self ≡ nodes_of l.ids ++ l.initial.self
