-- The circuits of all instances in a tree, each with its rows.
use Rattle.std.specs.Prelude.{◌≡◌, ℕ, List, slice_get, Some}
use Rattle.hc_bits.specs.BitVector.{BitVector}
use Rattle.hc_signal.specs.Tree.{Tree}
use Rattle.hc_signal.specs.Occurrences.{Occurrence, graph_at}
use Rattle.hc_canon.specs.declared.form.EntryId.{EntryId}
use Rattle.hc_canon.specs.FormView.{FormView}
use Rattle.hc_rows.specs.Rows.{row_at}
use Rattle.hc_values.specs.Rows.{at_path, number_at}
use Rattle.hc_values.specs.Edges.{ResetsRegisters, StepsMemories, StepsRegisters}
use Rattle.hc_layout.specs.Layout.{Layout, place}
use Rattle.hc_hierstate.specs.States.{circuit_of, memories_in, registers_in}

-- The circuit of each instance stands at its path.
abbrev pub HaveCircuits : List FormView → Layout → Tree → Type 0
HaveCircuits forms l t =
    (path : List ℕ) (p : ℕ) (entry : EntryId) → place forms l path ≡ Some p → slice_get l.entries p ≡ Some entry
    → graph_at t path ≡ circuit_of forms entry

-- So it does, and v gives each of its nodes what the instance's row has.
pub record StandInRows (forms : List FormView) (l : Layout) (t : Tree) (v : Occurrence → ℕ) (values : List (List BitVector)) : Type 0 where
  pub circuits : HaveCircuits forms l t
  pub numbers : (path : List ℕ) (p n : ℕ) → place forms l path ≡ Some p → v (at_path path n) ≡ number_at (row_at values p) n

-- The registers of each instance are stepped by the circuit and the values of the instance.
abbrev pub RegistersStep : List FormView → Layout → (values old new : List (List BitVector)) → Type 0
RegistersStep forms l values old new =
    (p : ℕ) (entry : EntryId) → slice_get l.entries p ≡ Some entry
    → StepsRegisters (circuit_of forms entry) (row_at values p) (registers_in (circuit_of forms entry)) (row_at old p) (row_at new p)

-- So are its memories.
abbrev pub MemoriesStep : List FormView → Layout → (values : List (List BitVector)) → (old new : List (List (List BitVector))) → Type 0
MemoriesStep forms l values old new =
    (p : ℕ) (entry : EntryId) → slice_get l.entries p ≡ Some entry
    → StepsMemories (circuit_of forms entry) (row_at values p) (memories_in (circuit_of forms entry)) (row_at old p) (row_at new p)

-- The registers of each instance are reset by its circuit.
abbrev pub RegistersReset : List FormView → Layout → (old new : List (List BitVector)) → Type 0
RegistersReset forms l old new =
    (p : ℕ) (entry : EntryId) → slice_get l.entries p ≡ Some entry
    → ResetsRegisters (circuit_of forms entry) (registers_in (circuit_of forms entry)) (row_at old p) (row_at new p)
