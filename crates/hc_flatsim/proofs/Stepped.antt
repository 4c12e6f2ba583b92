-- The state after a clock edge and a reset.
use Rattle.std.proofs.Common.{◌≡◌, ℕ, List, [], ◌∷◌, map, refl, sym, subst, ◌∙◌, ap, ap₂}
use Rattle.std.specs.Prelude.{slice_get, Option, Some, None}
use Rattle.std.specs.List.{enumerate_from}
use Rattle.hc_bits.specs.BitVector.{BitVector}
use Rattle.hc_signal.specs.Member.{Has, first, later}
use Rattle.hc_signal.specs.declared.signal.NodeId.{NodeId}
use Rattle.hc_signal.specs.declared.signal.MemId.{MemId}
use Rattle.hc_signal.specs.declared.signal.NodeRow.{NodeRow}
use Rattle.hc_signal.specs.declared.signal.Memory.{Memory}
use Rattle.hc_signal.specs.declared.signal.Node.{Node}
use Rattle.hc_signal.specs.declared.signal.Node.TheVariants.{Reg}
use Rattle.hc_signal.specs.Graph.{mem}
use Rattle.hc_signal.specs.Tree.{leaf}
use Rattle.hc_signal.specs.Occurrences.{Occurrence}
use Rattle.hc_walk.proofs.Members.{has_map}
use Rattle.hc_walk.proofs.InRange.{HasRow, reached_row}
use Rattle.hc_paths.specs.Digraph.{AllDifferent}
use Rattle.hc_bench.specs.Simulation.{next_value, next_register, next_memory, word_after, clock_edge, initial_register, reset}
use Rattle.hc_flatsim.specs.Updates.{updated}
use Rattle.hc_flatsim.specs.Machine.{Machine, IsMachine, at_node, registers_among, state_of, number_of, number_at, numbers, words_at, words_of, widths, memory_widths, valuation}
use Rattle.hc_flatsim.specs.Edges.{places, memory_places, next_of_row, next_register_at, next_registers, next_of_memory, next_words_at, next_memories, initial_of, initial_of_row, initial_register_at, initial_registers}
use Rattle.hc_flatsim.proofs.Changes.{updated_here}
use Rattle.hc_flatsim.proofs.Shapes.{found}
use Rattle.hc_flatsim.proofs.Held.{keys_differ, one_node, one_memory, among_differ, order_differ, reg_row, words_found}
use Rattle.hc_flatsim.proofs.Written.{words_written}

pub pairs_agree : {K X : Type 0} (h : Occurrence × X → Occurrence × X) (old new : K → Occurrence × X) (ids : List K) → ((id : K) → Has ids id → h (old id) ≡ new id) → map h (map old ids) ≡ map new ids
pairs_agree h old new [] a = refl
pairs_agree h old new (id ∷ ids) a = ap₂ (λ x xs. x ∷ xs) (a id first) (pairs_agree h old new ids (λ i c. a i (later c)))

abbrev pub init_node : Node → ℕ
init_node (Reg next enable clear init) = init.value
init_node other = 0

abbrev pub init_row : Option NodeRow → ℕ
init_row None = 0
init_row (Some row) = init_node row.node

abbrev next_by : (Occurrence → ℕ) → ℕ → Option NodeRow → ℕ
next_by v old None = old
next_by v old (Some row) = next_value v [] row.node old

abbrev words_by : (Occurrence → ℕ) → List ℕ → Option Memory → List ℕ
words_by v old None = old
words_by v old (Some m) = map (λ (p : ℕ × ℕ). word_after v [] m.writes p.0 p.1) (enumerate_from 0 old)

module _ (m : Machine) (is : IsMachine m) where
  abbrev pair : List BitVector → NodeId → Occurrence × ℕ
  pair registers id = (at_node id.0, number_at registers id.0)

  abbrev words_pair : List (List BitVector) → MemId → Occurrence × List ℕ
  words_pair memories id = (at_node id.0, numbers (words_at memories id.0))

  abbrev regs : List NodeId
  regs = registers_among m.graph m.order

  pub places_differ : AllDifferent (places m.clocked)
  places_differ = subst (λ (l : List NodeId). AllDifferent (places l)) (sym is.clocked) (keys_differ (λ (i : NodeId). i.0) one_node regs (among_differ m.graph m.order (order_differ m is)))

  -- registers that are changed at their places
  module _ (f : ℕ → BitVector → BitVector) (h : Occurrence × ℕ → Occurrence × ℕ)
      (a : (id : NodeId) → Has regs id → (x : BitVector) → slice_get m.registers id.0 ≡ Some x → h (at_node id.0, x.value) ≡ (at_node id.0, (f id.0 x).value)) where
    one_changed : (id : NodeId) → Has regs id → h (pair m.registers id) ≡ pair (updated f (places m.clocked) m.registers) id
    one_changed id c =
        let r = reg_row m is id c in
        let x : (x : BitVector) × (slice_get m.registers id.0 ≡ Some x) × (x.width ≡ r.0.width) = found (λ (b : BitVector). b.width)
        (λ (row : NodeRow). row.width) m.registers m.graph.nodes id.0 r.0 is.registers r.1 in
        let new : slice_get (updated f (places m.clocked) m.registers) id.0 ≡ Some (f id.0 x.0) =
        updated_here f (places m.clocked) id.0 m.registers x.0 places_differ (has_map (λ (i : NodeId). i.0) (subst (λ (l : List NodeId). Has l id) (sym is.clocked) c)) x.1 in
        ap (λ o. h (at_node id.0, number_of o)) x.1 ∙ a id c x.0 x.1 ∙ sym (ap (λ o. (at_node id.0, number_of o)) new)

    changed : map h (map (pair m.registers) regs) ≡ map (pair (updated f (places m.clocked) m.registers)) regs
    changed = pairs_agree h (pair m.registers) (pair (updated f (places m.clocked) m.registers)) regs one_changed

  reset_one : (id : NodeId) → Has regs id → (x : BitVector) → slice_get m.registers id.0 ≡ Some x
      → initial_register (leaf m.graph) (at_node id.0, x.value) ≡ (at_node id.0, (initial_register_at m.graph id.0 x).value)
  reset_one id c x at =
      let r = reg_row m is id c in
      ap (λ (o : Option NodeRow). (at_node id.0, init_row o)) r.1 ∙ ap (λ (z : Node). (at_node id.0, init_node z)) r.2.4
      ∙ sym (ap (λ (o : Option NodeRow). (at_node id.0, (initial_of_row o x).value)) r.1 ∙ ap (λ (z : Node). (at_node id.0, (initial_of z x).value)) r.2.4)

  pub reset_state : reset (leaf m.graph) (state_of m) ≡ state_of (record m { registers = initial_registers m.graph m.clocked m.registers })
  reset_state = ap (λ l. record { registers = l; memories = (state_of m).memories }) (changed (initial_register_at m.graph) (initial_register (leaf m.graph)) reset_one)

  next_one : (id : NodeId) → Has regs id → (x : BitVector) → slice_get m.registers id.0 ≡ Some x
      → next_register (leaf m.graph) (valuation m.values) (at_node id.0, x.value) ≡ (at_node id.0, (next_register_at m.graph m.values id.0 x).value)
  next_one id c x at =
      let r = reg_row m is id c in
      ap (λ (o : Option NodeRow). (at_node id.0, next_by (valuation m.values) x.value o)) r.1
      ∙ sym (ap (λ (o : Option NodeRow). (at_node id.0, (next_of_row m.values o x).value)) r.1)

  memory_next : (id : MemId) → Has m.used id → next_memory (leaf m.graph) (valuation m.values) (words_pair m.memories id) ≡ words_pair (next_memories m.graph m.values m.used m.memories) id
  memory_next id c =
      let row : HasRow m.graph (mem id.0) = reached_row m.graph is.lawful ((is.used id).0 c) in
      let w : (words : List BitVector) × (slice_get m.memories id.0 ≡ Some words) × (widths words ≡ memory_widths row.0) = words_found m is id.0 row.0 row.1 in
      let new : slice_get (next_memories m.graph m.values m.used m.memories) id.0 ≡ Some (next_words_at m.graph m.values id.0 w.0) =
      updated_here (next_words_at m.graph m.values) (memory_places m.used) id.0 m.memories w.0 (keys_differ (λ (i : MemId). i.0) one_memory m.used is.used_once) (has_map (λ (i : MemId). i.0) c) w.1 in
      ap (λ (o : Option (List BitVector)). (at_node id.0, words_by (valuation m.values) (numbers (words_of o)) (slice_get m.graph.memories id.0))) w.1
      ∙ ap (λ (o : Option Memory). (at_node id.0, words_by (valuation m.values) (numbers w.0) o)) row.1
      ∙ ap (λ (l : List ℕ). (at_node id.0, l)) (words_written m.graph m.values row.0.writes w.0)
      ∙ sym (ap (λ (o : Option (List BitVector)). (at_node id.0, numbers (words_of o))) new
      ∙ ap (λ (o : Option Memory). (at_node id.0, numbers (next_of_memory m.graph m.values o w.0))) row.1)

  abbrev pub edge_of : Machine
  edge_of = record m { registers = next_registers m.graph m.values m.clocked m.registers; memories = next_memories m.graph m.values m.used m.memories }

  pub edge_state : clock_edge (leaf m.graph) (valuation m.values) (state_of m) ≡ state_of edge_of
  edge_state =
      ap₂ (λ k l. record { registers = k; memories = l })
      (changed (next_register_at m.graph m.values) (next_register (leaf m.graph) (valuation m.values)) next_one)
      (pairs_agree (next_memory (leaf m.graph) (valuation m.values)) (words_pair m.memories) (words_pair (next_memories m.graph m.values m.used m.memories)) m.used memory_next)
