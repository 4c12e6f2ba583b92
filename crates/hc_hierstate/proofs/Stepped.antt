-- Instances that are stepped and reset by their own circuits.
use Rattle.std.proofs.Common.{◌≡◌, ℕ, List, sym, ◌∙◌, ap}
use Rattle.std.specs.Prelude.{slice_get, Some}
use Rattle.hc_bits.specs.BitVector.{BitVector}
use Rattle.hc_signal.specs.Tree.{Tree}
use Rattle.hc_signal.specs.Occurrences.{Occurrence, graph_at}
use Rattle.hc_canon.specs.declared.form.EntryId.{EntryId}
use Rattle.hc_canon.specs.FormView.{FormView}
use Rattle.hc_dbstate.specs.Unfolding.{unfolding_of}
use Rattle.hc_dbstate.proofs.Triples.{some_once}
use Rattle.hc_rows.specs.Rows.{row_at}
use Rattle.hc_values.specs.Rows.{StandsAt}
use Rattle.hc_layout.specs.Layout.{Layout, place}
use Rattle.hc_hierstate.specs.States.{circuit_in, circuit_of}
use Rattle.hc_hierstate.specs.Changes.{ResetAllRegisters, StepAllMemories, StepAllRegisters}
use Rattle.hc_hierstate.specs.Circuits.{HaveCircuits, MemoriesStep, RegistersReset, RegistersStep, StandInRows}
use Rattle.hc_hierstate.proofs.Own.{register_listed}

pub have_circuits : (forms : List FormView) (top : EntryId) (l : Layout)
    → ((path : List ℕ) (p : ℕ) → place forms l path ≡ Some p
    → (id : EntryId) × (form : FormView) × (slice_get l.entries p ≡ Some id) × (slice_get forms id.0 ≡ Some form) × (graph_at (unfolding_of forms top) path ≡ form.circuit))
    → HaveCircuits forms l (unfolding_of forms top)
have_circuits forms top l graphs path p entry placed at =
    let x = graphs path p placed in
    x.4 ∙ sym (ap circuit_in x.3) ∙ ap (circuit_of forms) (some_once (sym x.2 ∙ at))

module _ (forms : List FormView) (l : Layout) (t : Tree) where
  stands : (v : Occurrence → ℕ) (values : List (List BitVector)) → StandInRows forms l t v values
      → (path : List ℕ) (p : ℕ) (entry : EntryId) → place forms l path ≡ Some p → slice_get l.entries p ≡ Some entry → StandsAt t path v (circuit_of forms entry) (row_at values p)
  stands v values s path p entry placed at = record { circuit = s.circuits path p entry placed at; numbers = λ n. s.numbers path p n placed }

  pub registers_step : (v : Occurrence → ℕ) (values old new : List (List BitVector)) → StandInRows forms l t v values → RegistersStep forms l values old new → StepAllRegisters forms l t v old new
  registers_step v values old new s step path p entry id placed at has = step p entry at t path v (stands v values s path p entry placed at) id has

  pub memories_step : (v : Occurrence → ℕ) (values : List (List BitVector)) (old new : List (List (List BitVector))) → StandInRows forms l t v values → MemoriesStep forms l values old new
      → StepAllMemories forms l t v old new
  memories_step v values old new s step path p entry id placed at has = step p entry at t path v (stands v values s path p entry placed at) id has

  pub registers_reset : (old new : List (List BitVector)) → HaveCircuits forms l t → RegistersReset forms l old new → ResetAllRegisters forms l t old new
  registers_reset old new circuits step path p entry id placed at has =
      step p entry at t path (circuits path p entry placed at) id has ((register_listed (circuit_of forms entry) id).0 has)
