-- What the state of rows has for a register and for a memory.
use Rattle.std.proofs.Common.{◌≡◌, ℕ, List, [], map, ap, sym, ◌∙◌}
use Rattle.std.specs.Prelude.{slice_get, Some}
use Rattle.hc_bits.specs.BitVector.{BitVector}
use Rattle.hc_signal.specs.Member.{Has}
use Rattle.hc_signal.specs.declared.signal.NodeId.{NodeId}
use Rattle.hc_signal.specs.declared.signal.MemId.{MemId}
use Rattle.hc_signal.specs.Graph.{Graph}
use Rattle.hc_signal.specs.Occurrences.{Occurrence}
use Rattle.hc_walk.proofs.Members.{has_from_map, has_map}
use Rattle.hc_walk.proofs.Walks.{AllDifferent}
use Rattle.hc_canon.specs.declared.form.EntryId.{EntryId}
use Rattle.hc_canon.specs.FormView.{FormView}
use Rattle.hc_dbstate.proofs.Triples.{some_once}
use Rattle.hc_bench.specs.Simulation.{State, memory_words, register_value}
use Rattle.hc_rows.specs.Rows.{row_at}
use Rattle.hc_values.specs.Rows.{at_path, number_at, numbers, words_at}
use Rattle.hc_layout.specs.Layout.{Layout, place, IsLayout}
use Rattle.hc_hierstate.specs.Paths.{paths}
use Rattle.hc_hierstate.specs.States.{circuit_of, memories_in, instance_memories, instance_registers, registers_in, state_of}
use Rattle.hc_hierstate.proofs.PathsPlaced.{path_placed, placed_path}
use Rattle.hc_hierstate.proofs.Differ.{held, key, once_differ}
use Rattle.hc_hierstate.proofs.Each.{differ_each, each_has, has_each}
use Rattle.hc_hierstate.proofs.Own.{own_memories_differ, own_registers_differ}

-- a register or a memory of the state, and the instance that has it
pub record IsAt {K : Type 0} (forms : List FormView) (l : Layout) (num : K → ℕ) (listed : Graph → List K) (s : Occurrence) : Type 0 where
  pub p : ℕ
  pub entry : EntryId
  pub id : K
  pub entry_is : slice_get l.entries p ≡ Some entry
  pub placed : place forms l s.path ≡ Some p
  pub has : Has (listed (circuit_of forms entry)) id
  pub node : num id ≡ s.node

module _ (forms : List FormView) (top : EntryId) (l : Layout) (lay : IsLayout forms top l) (registers : List (List BitVector)) (words : List (List (List BitVector))) where
  abbrev pub state : State
  state = state_of forms l registers words

  paths_differ : AllDifferent (paths forms l)
  paths_differ = once_differ (paths forms l) (λ i j path a b. some_once (sym (path_placed forms top l lay path i a) ∙ path_placed forms top l lay path j b))

  pub register_keys : AllDifferent (map key state.registers)
  register_keys =
      differ_each forms (instance_registers registers) (λ p g path. own_registers_differ g path (row_at registers p)) l.entries (paths forms l) paths_differ

  pub memory_keys : AllDifferent (map key state.memories)
  memory_keys =
      differ_each forms (instance_memories words) (λ p g path. own_memories_differ g path (row_at words p)) l.entries (paths forms l) paths_differ

  module _ (path : List ℕ) (p : ℕ) (entry : EntryId) (placed : place forms l path ≡ Some p) (at : slice_get l.entries p ≡ Some entry) where
    pub has_register : (id : NodeId) → Has (registers_in (circuit_of forms entry)) id → Has state.registers (at_path path id.0, number_at (row_at registers p) id.0)
    has_register id h =
        each_has forms (instance_registers registers) l.entries (paths forms l) p entry path (at_path path id.0, number_at (row_at registers p) id.0)
        at (placed_path forms top l lay path p placed) (has_map (λ (id : NodeId). (at_path path id.0, number_at (row_at registers p) id.0)) h)

    pub has_memory : (id : MemId) → Has (memories_in (circuit_of forms entry)) id → Has state.memories (at_path path id.0, numbers (words_at (row_at words p) id.0))
    has_memory id h =
        each_has forms (instance_memories words) l.entries (paths forms l) p entry path (at_path path id.0, numbers (words_at (row_at words p) id.0))
        at (placed_path forms top l lay path p placed) (has_map (λ (id : MemId). (at_path path id.0, numbers (words_at (row_at words p) id.0))) h)

    pub register_held : (id : NodeId) → Has (registers_in (circuit_of forms entry)) id → register_value state (at_path path id.0) ≡ number_at (row_at registers p) id.0
    register_held id h = held 0 state.registers (at_path path id.0, number_at (row_at registers p) id.0) register_keys (has_register id h)

    pub memory_held : (id : MemId) → Has (memories_in (circuit_of forms entry)) id → memory_words state (at_path path id.0) ≡ numbers (words_at (row_at words p) id.0)
    memory_held id h = held [] state.memories (at_path path id.0, numbers (words_at (row_at words p) id.0)) memory_keys (has_memory id h)

  pub register_of : (s : Occurrence) (x : ℕ) → Has state.registers (s, x)
      → IsAt forms l (λ (id : NodeId). id.0) registers_in s × ((p : ℕ) → place forms l s.path ≡ Some p → x ≡ number_at (row_at registers p) s.node)
  register_of s x h =
      let r = has_each forms (instance_registers registers) l.entries (paths forms l) (s, x) h in
      let u = has_from_map (λ (id : NodeId). (at_path r.path id.0, number_at (row_at registers r.p) id.0)) (registers_in (circuit_of forms r.entry)) (s, x) r.has in
      let is : at_path r.path u.0.0 ≡ s = ap (λ (e : Occurrence × ℕ). e.0) u.2 in
      let placed : place forms l s.path ≡ Some r.p = ap (λ (z : Occurrence). place forms l z.path) (sym is) ∙ path_placed forms top l lay r.path r.p r.path_is in (
        record { p = r.p; entry = r.entry; id = u.0; entry_is = r.entry_is; placed = placed; has = u.1; node = ap (λ (z : Occurrence). z.node) is },
        λ p e. sym (ap (λ (e : Occurrence × ℕ). e.1) u.2) ∙ ap (λ (z : Occurrence). number_at (row_at registers r.p) z.node) is
            ∙ ap (λ (k : ℕ). number_at (row_at registers k) s.node) (some_once (sym placed ∙ e)),
      )

  pub memory_of : (s : Occurrence) (x : List ℕ) → Has state.memories (s, x)
      → IsAt forms l (λ (id : MemId). id.0) memories_in s × ((p : ℕ) → place forms l s.path ≡ Some p → x ≡ numbers (words_at (row_at words p) s.node))
  memory_of s x h =
      let r = has_each forms (instance_memories words) l.entries (paths forms l) (s, x) h in
      let u = has_from_map (λ (id : MemId). (at_path r.path id.0, numbers (words_at (row_at words r.p) id.0))) (memories_in (circuit_of forms r.entry)) (s, x) r.has in
      let is : at_path r.path u.0.0 ≡ s = ap (λ (e : Occurrence × List ℕ). e.0) u.2 in
      let placed : place forms l s.path ≡ Some r.p = ap (λ (z : Occurrence). place forms l z.path) (sym is) ∙ path_placed forms top l lay r.path r.p r.path_is in (
        record { p = r.p; entry = r.entry; id = u.0; entry_is = r.entry_is; placed = placed; has = u.1; node = ap (λ (z : Occurrence). z.node) is },
        λ p e. sym (ap (λ (e : Occurrence × List ℕ). e.1) u.2) ∙ ap (λ (z : Occurrence). numbers (words_at (row_at words r.p) z.node)) is
            ∙ ap (λ (k : ℕ). numbers (words_at (row_at words k) s.node)) (some_once (sym placed ∙ e)),
      )
