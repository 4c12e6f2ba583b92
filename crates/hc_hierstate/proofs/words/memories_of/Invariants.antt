use Rattle.std.proofs.Common.{◌≡◌, map}
use Rattle.std.specs.List.{range_with_len}
use Rattle.hc_hierstate.specs.States.{memory_id}
use Rattle.hc_hierstate.proofs.words.memories_of.Given as goal

abbrev pub invariant-memories : goal.invariant-memories
invariant-memories l = l.ids.items ≡ map memory_id (range_with_len 0 l.m)
