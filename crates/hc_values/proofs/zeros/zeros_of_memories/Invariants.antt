use Rattle.std.proofs.Common.{◌≡◌, take, map}
use Rattle.hc_values.specs.Rows.{zeros_of_memory}
use Rattle.hc_values.proofs.zeros.zeros_of_memories.Given as goal

abbrev pub invariant-memories : goal.invariant-memories
invariant-memories l = l.words.items ≡ map zeros_of_memory (take l.memory-index l.memories)
