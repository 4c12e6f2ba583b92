-- The parts of a new simulator.
use Rattle.std.specs.Prelude.{ℕ, List, [], ◌∷◌, replicate}
use Rattle.hc_bits.specs.BitVector.{BitVector}
use Rattle.hc_signal.specs.declared.signal.MemId.{MemId}
use Rattle.hc_signal.specs.declared.signal.Memory.{Memory as MemoryOf}
use Rattle.hc_walk.specs.declared.vertex.VertexId.{VertexId}
use Rattle.hc_walk.specs.declared.vertex.VertexId.TheVariants.{Node, Memory, Instance}

-- the memories among vertices
abbrev pub memories_among : List VertexId → List MemId
memories_among [] = []
memories_among (Node id ∷ vertices) = memories_among vertices
memories_among (Memory id ∷ vertices) = id ∷ memories_among vertices
memories_among (Instance id ∷ vertices) = memories_among vertices

abbrev pub zero_of : ℕ → BitVector
zero_of width = record { width = width; value = 0 }

abbrev pub zeros_of_memory : MemoryOf → List BitVector
zeros_of_memory m = replicate m.size (zero_of m.width)
