-- What a clock edge and a reset make of the registers and memories of one circuit.
use Rattle.std.specs.Prelude.{◌≡◌, ℕ, Bool, true, false, ◌==◌, if◌then◌else◌, List, [], ◌∷◌, map, slice_get, slice_set, Option, Some, None}
use Rattle.hc_bits.specs.BitVector.{BitVector}
use Rattle.hc_signal.specs.Member.{Has}
use Rattle.hc_signal.specs.declared.signal.NodeId.{NodeId}
use Rattle.hc_signal.specs.declared.signal.MemId.{MemId}
use Rattle.hc_signal.specs.declared.signal.NodeRow.{NodeRow}
use Rattle.hc_signal.specs.declared.signal.Memory.{Memory}
use Rattle.hc_signal.specs.declared.signal.WritePort.{WritePort}
use Rattle.hc_signal.specs.declared.signal.Node.{Node}
use Rattle.hc_signal.specs.declared.signal.Node.TheVariants.{Reg}
use Rattle.hc_signal.specs.Graph.{Graph}
use Rattle.hc_signal.specs.Tree.{Tree}
use Rattle.hc_signal.specs.Occurrences.{Occurrence, graph_at}
use Rattle.hc_bench.specs.Simulation.{next_value, next_register, next_memory, initial_register}
use Rattle.hc_values.specs.Rows.{number_at, numbers, words_at, at_path, StandsAt}
use Rattle.hc_values.specs.Values.{operand, valuation}
use Rattle.hc_values.specs.Updates.{updated}

abbrev pub places : List NodeId → List ℕ
places ids = map (λ (id : NodeId). id.0) ids

abbrev pub memory_places : List MemId → List ℕ
memory_places ids = map (λ (id : MemId). id.0) ids

-- what stands at no such place stays
abbrev pub KeepsOthers : {X : Type 0} → List ℕ → (old new : List X) → Type 0
KeepsOthers places old new = (n : ℕ) → ¬ Has places n → slice_get new n ≡ slice_get old n

-- Wherever the circuit stands, each of these registers is that after the clock edge.
abbrev pub StepsRegisters : Graph → (values : List BitVector) → List NodeId → (old new : List BitVector) → Type 0
StepsRegisters g values ids old new = (t : Tree) (p : List ℕ) (v : Occurrence → ℕ) → StandsAt t p v g values → (id : NodeId) → Has ids id
    → next_register t v (at_path p id.0, number_at old id.0) ≡ (at_path p id.0, number_at new id.0)

-- Wherever the circuit stands, the words of each of these memories are those after the clock edge.
abbrev pub StepsMemories : Graph → (values : List BitVector) → List MemId → (old new : List (List BitVector)) → Type 0
StepsMemories g values ids old new = (t : Tree) (p : List ℕ) (v : Occurrence → ℕ) → StandsAt t p v g values → (id : MemId) → Has ids id
    → next_memory t v (at_path p id.0, numbers (words_at old id.0)) ≡ (at_path p id.0, numbers (words_at new id.0))

abbrev pub is_register : Node → Bool
is_register (Reg next enable clear init) = true
is_register other = false

abbrev pub is_register_row : Option NodeRow → Bool
is_register_row None = false
is_register_row (Some row) = is_register row.node

-- Wherever the circuit stands, each of these nodes that is a register has its initial value.
abbrev pub ResetsRegisters : Graph → List NodeId → (old new : List BitVector) → Type 0
ResetsRegisters g ids old new = (t : Tree) (p : List ℕ) → graph_at t p ≡ g → (id : NodeId) → Has ids id → is_register_row (slice_get g.nodes id.0) ≡ true
    → initial_register t (at_path p id.0, number_at old id.0) ≡ (at_path p id.0, number_at new id.0)

-- ---- the same by the circuit alone

abbrev pub next_of_row : List BitVector → Option NodeRow → BitVector → BitVector
next_of_row values None old = old
next_of_row values (Some row) old = record { width = old.width; value = next_value (valuation values) [] row.node old.value }

-- the register of a node after the edge
abbrev pub next_register_at : Graph → List BitVector → ℕ → BitVector → BitVector
next_register_at g values n old = next_of_row values (slice_get g.nodes n) old

abbrev pub next_registers : Graph → List BitVector → List NodeId → List BitVector → List BitVector
next_registers g values ids registers = updated (next_register_at g values) (places ids) registers

abbrev pub initial_of : Node → BitVector → BitVector
initial_of (Reg next enable clear init) old = init
initial_of other old = old

abbrev pub initial_of_row : Option NodeRow → BitVector → BitVector
initial_of_row None old = old
initial_of_row (Some row) old = initial_of row.node old

-- the register of a node after a reset
abbrev pub initial_register_at : Graph → ℕ → BitVector → BitVector
initial_register_at g n old = initial_of_row (slice_get g.nodes n) old

abbrev pub initial_registers : Graph → List NodeId → List BitVector → List BitVector
initial_registers g ids registers = updated (initial_register_at g) (places ids) registers

-- the words after one write port
abbrev pub written : Graph → List BitVector → WritePort → List BitVector → List BitVector
written g values w words = if number_at values w.enable.0 == 1 then slice_set words (number_at values w.addr.0) (operand g values w.value) else words

-- the words after these write ports, in their order
abbrev pub written_all : Graph → List BitVector → List WritePort → List BitVector → List BitVector
written_all g values [] words = words
written_all g values (w ∷ ws) words = written_all g values ws (written g values w words)

abbrev pub next_of_memory : Graph → List BitVector → Option Memory → List BitVector → List BitVector
next_of_memory g values None words = words
next_of_memory g values (Some m) words = written_all g values m.writes words

abbrev pub next_words_at : Graph → List BitVector → ℕ → List BitVector → List BitVector
next_words_at g values m words = next_of_memory g values (slice_get g.memories m) words

abbrev pub next_memories : Graph → List BitVector → List MemId → List (List BitVector) → List (List BitVector)
next_memories g values ids memories = updated (next_words_at g values) (memory_places ids) memories
