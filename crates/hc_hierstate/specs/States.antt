-- The registers and memories of all instances in rows, and the state that they stand for.
use Rattle.std.specs.Prelude.{◌≡◌, ℕ, suc, Bool, List, [], ◌∷◌, ◌++◌, length, map, slice_get, Option, Some, None}
use Rattle.std.specs.List.{filter, range_with_len}
use Rattle.hc_bits.specs.BitVector.{BitVector}
use Rattle.hc_signal.specs.declared.signal.NodeId.{NodeId}
use Rattle.hc_signal.specs.declared.signal.MemId.{MemId}
use Rattle.hc_signal.specs.Graph.{Graph}
use Rattle.hc_signal.specs.Tree.{empty}
use Rattle.hc_signal.specs.Occurrences.{Occurrence}
use Rattle.hc_canon.specs.declared.form.EntryId.{EntryId}
use Rattle.hc_canon.specs.FormView.{FormView}
use Rattle.hc_bench.specs.Simulation.{State}
use Rattle.hc_rows.specs.Rows.{row_at}
use Rattle.hc_values.specs.Rows.{at_path, memory_widths, node_widths, number_at, numbers, widths, words_at}
use Rattle.hc_values.specs.Edges.{is_register_row}
use Rattle.hc_layout.specs.Layout.{Layout}
use Rattle.hc_hierstate.specs.Paths.{paths}

-- the circuit of an entry, without nodes where there is no such entry
abbrev pub circuit_in : Option FormView → Graph
circuit_in None = empty
circuit_in (Some form) = form.circuit

abbrev pub circuit_of : List FormView → EntryId → Graph
circuit_of forms id = circuit_in (slice_get forms id.0)

-- ---- one circuit

abbrev pub node_id : ℕ → NodeId
node_id n = record { 0 = n }

abbrev pub memory_id : ℕ → MemId
memory_id m = record { 0 = m }

abbrev pub is_register_at : Graph → NodeId → Bool
is_register_at g id = is_register_row (slice_get g.nodes id.0)

-- the nodes that are registers, in order
abbrev pub registers_in : Graph → List NodeId
registers_in g = filter (is_register_at g) (map node_id (range_with_len 0 (length g.nodes)))

-- all memories, in order
abbrev pub memories_in : Graph → List MemId
memories_in g = map memory_id (range_with_len 0 (length g.memories))

-- the registers of a circuit that stands at a path, with what a row has for them
abbrev pub own_registers : Graph → List ℕ → List BitVector → List (Occurrence × ℕ)
own_registers g path row = map (λ (id : NodeId). (at_path path id.0, number_at row id.0)) (registers_in g)

abbrev pub own_memories : Graph → List ℕ → List (List BitVector) → List (Occurrence × List ℕ)
own_memories g path row = map (λ (id : MemId). (at_path path id.0, numbers (words_at row id.0))) (memories_in g)

-- ---- all instances

-- the registers of the instance with a number, of which these are the circuit and the path
abbrev pub instance_registers : List (List BitVector) → ℕ → Graph → List ℕ → List (Occurrence × ℕ)
instance_registers rows p g path = own_registers g path (row_at rows p)

abbrev pub instance_memories : List (List (List BitVector)) → ℕ → Graph → List ℕ → List (Occurrence × List ℕ)
instance_memories rows p g path = own_memories g path (row_at rows p)

-- what each instance has, by its number, its circuit and its path, in the order of the numbers
abbrev pub of_each : {X : Type 0} → List FormView → (ℕ → Graph → List ℕ → List X) → List EntryId → List (List ℕ) → List X
of_each forms f [] paths = []
of_each forms f (id ∷ ids) [] = []
of_each forms f (id ∷ ids) (path ∷ paths) = f 0 (circuit_of forms id) path ++ of_each forms (λ (p : ℕ). f (suc p)) ids paths

-- The state that rows of registers and of words stand for, a row for each instance.
abbrev pub state_of : List FormView → Layout → List (List BitVector) → List (List (List BitVector)) → State
state_of forms l registers words = record {
  registers = of_each forms (instance_registers registers) l.entries (paths forms l);
  memories = of_each forms (instance_memories words) l.entries (paths forms l);
}

-- Each instance has a row of registers with the widths of its circuit's nodes, and a row of words with those of its memories.
pub record AreStateRows (forms : List FormView) (l : Layout) (registers : List (List BitVector)) (words : List (List (List BitVector))) : Type 0 where
  pub many_registers : length registers ≡ length l.entries
  pub many_words : length words ≡ length l.entries
  pub register_rows : (p : ℕ) (id : EntryId) → slice_get l.entries p ≡ Some id → widths (row_at registers p) ≡ node_widths (circuit_of forms id).nodes
  pub word_rows : (p : ℕ) (id : EntryId) → slice_get l.entries p ≡ Some id → map widths (row_at words p) ≡ map memory_widths (circuit_of forms id).memories
