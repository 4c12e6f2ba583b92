use Rattle.std.proofs.Common.{◌≡◌, take}
use Rattle.std.specs.Prelude.{sum_by}
use Rattle.hc_signal.specs.Weight.{memory_weight}
use Rattle.hc_weights.proofs.circuits.weight_of_memories.Given as goal

abbrev pub invariant-memories : goal.invariant-memories
invariant-memories l = l.sum ≡ sum_by memory_weight (take l.memory-index l.memories)
