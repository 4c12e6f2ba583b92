use Rattle.std.proofs.Common.{◌≡◌, ◌++◌, map, take}
use Rattle.hc_canon.specs.Numbers.{renumbering}
use Rattle.hc_signal.specs.Renumber.{memory_by}
use Rattle.hc_flatten.proofs.layout.lay_memories.Given as goal

abbrev pub invariant-rows : goal.invariant-rows
invariant-rows l = l.memories.items ≡ l.initial.memories.items ++ map (memory_by (renumbering l.numbers)) (take l.row-index l.rows)
