-- What a clock edge and a reset make of the rows of all instances, and the rows at the start.
use Rattle.std.specs.Prelude.{◌≡◌, ℕ, List, map, slice_get, Some}
use Rattle.hc_bits.specs.BitVector.{BitVector}
use Rattle.hc_signal.specs.Member.{Has}
use Rattle.hc_signal.specs.declared.signal.NodeId.{NodeId}
use Rattle.hc_signal.specs.declared.signal.MemId.{MemId}
use Rattle.hc_signal.specs.declared.signal.NodeRow.{NodeRow}
use Rattle.hc_signal.specs.Graph.{Graph}
use Rattle.hc_signal.specs.Tree.{Tree}
use Rattle.hc_signal.specs.Occurrences.{Occurrence}
use Rattle.hc_canon.specs.declared.form.EntryId.{EntryId}
use Rattle.hc_canon.specs.FormView.{FormView}
use Rattle.hc_bench.specs.Simulation.{initial_register, next_memory, next_register}
use Rattle.hc_rows.specs.Rows.{row_at}
use Rattle.hc_values.specs.Rows.{at_path, number_at, numbers, words_at, zero_of, zeros_of_memory}
use Rattle.hc_values.specs.Edges.{initial_of}
use Rattle.hc_layout.specs.Layout.{Layout, place}
use Rattle.hc_hierstate.specs.States.{circuit_of, memories_in, registers_in}

-- In each instance a clock edge makes of each register what stands in the new rows.
abbrev pub StepAllRegisters : List FormView → Layout → Tree → (Occurrence → ℕ) → (old new : List (List BitVector)) → Type 0
StepAllRegisters forms l t v old new =
    (path : List ℕ) (p : ℕ) (entry : EntryId) (id : NodeId) → place forms l path ≡ Some p → slice_get l.entries p ≡ Some entry
    → Has (registers_in (circuit_of forms entry)) id
    → next_register t v (at_path path id.0, number_at (row_at old p) id.0) ≡ (at_path path id.0, number_at (row_at new p) id.0)

-- In each instance a clock edge makes of each memory what stands in the new rows.
abbrev pub StepAllMemories : List FormView → Layout → Tree → (Occurrence → ℕ) → (old new : List (List (List BitVector))) → Type 0
StepAllMemories forms l t v old new =
    (path : List ℕ) (p : ℕ) (entry : EntryId) (id : MemId) → place forms l path ≡ Some p → slice_get l.entries p ≡ Some entry
    → Has (memories_in (circuit_of forms entry)) id
    → next_memory t v (at_path path id.0, numbers (words_at (row_at old p) id.0)) ≡ (at_path path id.0, numbers (words_at (row_at new p) id.0))

-- In each instance each register has its initial value in the new rows.
abbrev pub ResetAllRegisters : List FormView → Layout → Tree → (old new : List (List BitVector)) → Type 0
ResetAllRegisters forms l t old new =
    (path : List ℕ) (p : ℕ) (entry : EntryId) (id : NodeId) → place forms l path ≡ Some p → slice_get l.entries p ≡ Some entry
    → Has (registers_in (circuit_of forms entry)) id
    → initial_register t (at_path path id.0, number_at (row_at old p) id.0) ≡ (at_path path id.0, number_at (row_at new p) id.0)

-- ---- at the start

-- the initial value of each register, and 0 for the other nodes
abbrev pub initial_row : Graph → List BitVector
initial_row g = map (λ (row : NodeRow). initial_of row.node (zero_of row.width)) g.nodes

-- all words 0, for each memory
abbrev pub zero_row : Graph → List (List BitVector)
zero_row g = map zeros_of_memory g.memories

abbrev pub initial_rows : List FormView → Layout → List (List BitVector)
initial_rows forms l = map (λ (id : EntryId). initial_row (circuit_of forms id)) l.entries

abbrev pub zero_rows : List FormView → Layout → List (List (List BitVector))
zero_rows forms l = map (λ (id : EntryId). zero_row (circuit_of forms id)) l.entries
