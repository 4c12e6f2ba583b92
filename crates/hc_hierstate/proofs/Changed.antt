-- The state of the rows after a clock edge and after a reset.
use Rattle.std.proofs.Common.{◌≡◌, ℕ, List, [], ◌∷◌, map, refl, sym, ap, ap₂}
use Rattle.std.specs.Prelude.{slice_get, Some}
use Rattle.hc_bits.specs.BitVector.{BitVector}
use Rattle.hc_signal.specs.Member.{Has, first, later}
use Rattle.hc_signal.specs.declared.signal.NodeId.{NodeId}
use Rattle.hc_signal.specs.declared.signal.MemId.{MemId}
use Rattle.hc_signal.specs.Tree.{Tree}
use Rattle.hc_signal.specs.Occurrences.{Occurrence}
use Rattle.hc_canon.specs.declared.form.EntryId.{EntryId}
use Rattle.hc_canon.specs.FormView.{FormView}
use Rattle.hc_bench.specs.Simulation.{clock_edge, initial_register, next_memory, next_register, reset}
use Rattle.hc_rows.specs.Rows.{row_at}
use Rattle.hc_values.specs.Rows.{at_path, number_at, numbers, words_at}
use Rattle.hc_layout.specs.Layout.{Layout, IsLayout}
use Rattle.hc_hierstate.specs.Paths.{paths}
use Rattle.hc_hierstate.specs.States.{circuit_of, memories_in, of_each, instance_memories, instance_registers, registers_in, state_of}
use Rattle.hc_hierstate.specs.Changes.{ResetAllRegisters, StepAllMemories, StepAllRegisters}
use Rattle.hc_hierstate.proofs.PathsPlaced.{path_placed}
use Rattle.hc_hierstate.proofs.Each.{map_each}

pub pairs_agree : {K X Y : Type 0} (h : X → Y) (f : K → X) (g : K → Y) (ids : List K) → ((id : K) → Has ids id → h (f id) ≡ g id) → map h (map f ids) ≡ map g ids
pairs_agree h f g [] same = refl
pairs_agree h f g (id ∷ ids) same = ap₂ (λ x xs. x ∷ xs) (same id first) (pairs_agree h f g ids (λ i k. same i (later k)))

module _ (forms : List FormView) (top : EntryId) (l : Layout) (lay : IsLayout forms top l) (t : Tree) where
  -- a change of each register
  registers_change : (h : Occurrence × ℕ → Occurrence × ℕ) (old new : List (List BitVector))
      → ((p : ℕ) (entry : EntryId) (path : List ℕ) → slice_get l.entries p ≡ Some entry → slice_get (paths forms l) p ≡ Some path
      → (id : NodeId) → Has (registers_in (circuit_of forms entry)) id → h (at_path path id.0, number_at (row_at old p) id.0) ≡ (at_path path id.0, number_at (row_at new p) id.0))
      → map h (of_each forms (instance_registers old) l.entries (paths forms l))
      ≡ of_each forms (instance_registers new) l.entries (paths forms l)
  registers_change h old new same =
      map_each h forms (instance_registers old) (instance_registers new) l.entries (paths forms l)
      (λ p entry path a b. pairs_agree h (λ (id : NodeId). (at_path path id.0, number_at (row_at old p) id.0)) (λ (id : NodeId). (at_path path id.0, number_at (row_at new p) id.0))
      (registers_in (circuit_of forms entry)) (same p entry path a b))

  memories_change : (v : Occurrence → ℕ) (words after : List (List (List BitVector))) → StepAllMemories forms l t v words after
      → map (next_memory t v) (of_each forms (instance_memories words) l.entries (paths forms l))
      ≡ of_each forms (instance_memories after) l.entries (paths forms l)
  memories_change v words after step =
      map_each (next_memory t v) forms (instance_memories words) (instance_memories after) l.entries (paths forms l)
      (λ p entry path a b. pairs_agree (next_memory t v) (λ (id : MemId). (at_path path id.0, numbers (words_at (row_at words p) id.0)))
      (λ (id : MemId). (at_path path id.0, numbers (words_at (row_at after p) id.0)))
      (memories_in (circuit_of forms entry)) (λ id h. step path p entry id (path_placed forms top l lay path p b) a h))

  pub edge_is : (v : Occurrence → ℕ) (old new : List (List BitVector)) (words after : List (List (List BitVector))) → StepAllRegisters forms l t v old new → StepAllMemories forms l t v words after
      → state_of forms l new after ≡ clock_edge t v (state_of forms l old words)
  edge_is v old new words after step steps =
      sym (ap₂ (λ a b. record { registers = a; memories = b }) (registers_change (next_register t v) old new (λ p entry path a b id h. step path p entry id (path_placed forms top l lay path p b) a h))
      (memories_change v words after steps))

  pub reset_is : (old new : List (List BitVector)) (words : List (List (List BitVector))) → ResetAllRegisters forms l t old new → state_of forms l new words ≡ reset t (state_of forms l old words)
  reset_is old new words step =
      sym (ap (λ a. record { registers = a; memories = (state_of forms l old words).memories })
      (registers_change (initial_register t) old new (λ p entry path a b id h. step path p entry id (path_placed forms top l lay path p b) a h)))
