use Rattle.std.proofs.Common.{◌≡◌, ◌++◌, length, take}
use Rattle.std.specs.Vec.Iter.{into_iter_items}
use Rattle.hc_workers.specs.Levels.{written}
use Rattle.hc_workers.proofs.levels.write.Given as goal

abbrev pub invariant-list : goal.invariant-list
invariant-list l = (l.yielded ++ into_iter_items l.out-iterator ≡ into_iter_items l.initial.out-iterator) × (l.next ≡ length l.yielded) × (l.outs ≡ written l.fn.outs (take l.next l.places) l.yielded)
