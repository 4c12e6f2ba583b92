use Rattle.std.proofs.Common.{◌≡◌, take, map}
use Rattle.hc_flatsim.specs.Starting.{zeros_of_memory}
use Rattle.hc_flatsim.proofs.make.zeros_of_memories.Given as goal

abbrev pub invariant-memories : goal.invariant-memories
invariant-memories l = l.words.items ≡ map zeros_of_memory (take l.memory-index l.memories)
