-- The flat graph of a tree gives a bench the rows of the tree.
use Rattle.std.proofs.Common.{◌≡◌, ℕ, ◌&&◌, ◌==◌, List, [], ◌∷◌, map, length, refl, sym, subst, ◌∙◌, ap, ap₂}
use Rattle.std.specs.Prelude.{slice_get, if◌then◌else◌, Option, Some, None, option_map}
use Rattle.std.specs.List.{enumerate_from}
use Rattle.hc_signal.specs.Member.{Has, first, later}
use Rattle.hc_walk.proofs.Members.{has_map, has_left, has_right}
use Rattle.hc_bench.specs.declared.kinds.Step.{Step}
use Rattle.hc_signal.specs.declared.signal.NodeId.{NodeId}
use Rattle.hc_signal.specs.declared.signal.WritePort.{WritePort}
use Rattle.hc_signal.specs.declared.signal.Node.{Node}
use Rattle.hc_signal.specs.declared.signal.Node.TheVariants.{Reg}
use Rattle.hc_bits.specs.BitVector.{BitVector}
use Rattle.hc_signal.specs.Graph.{Graph, node, mem, fanin_of_row, fanin_of_node, fanin_of_writes, fanin_of_memory, node_of, optional_node, clear_node}
use Rattle.hc_signal.specs.Tree.{Tree, graph, IsWhole, leaf}
use Rattle.hc_signal.specs.Renumber.{id_by, clear_by, node_by, row_by, write_by, memory_by}
use Rattle.hc_signal.specs.Occurrences.{Occurrence, tree_at, graph_at, NodeIs, is_port_alias, HasCombLoop}
use Rattle.hc_signal.specs.FlatGraph.{FlatReached, output, to_node, within, IsFlat}
use Rattle.hc_bench.specs.Simulation.{State, IsInitialState, IsStateOf, IsSettled, look_up, value_at, is_enabled, cleared, next_value, word_after, clock_edge, reset, outputs_of}
use Rattle.hc_bench.specs.Listing.{CycleRow}
use Rattle.hc_bench.specs.Trace.{Trace, stop, set, start, past, cycle, IsCycle}
use Rattle.hc_walk.proofs.InRange.{HasRow}
use Rattle.hc_traces.proofs.Settling.{row_in, whole_at, some_settled}
use Rattle.hc_traces.proofs.Traces.{edge_state, reset_state}
use Rattle.hc_traces.proofs.TwinTraces.{held_number, held_words, held_first, number_after, words_after, first_of, first_by, map_each, opening_number, opening_words}
use Rattle.hc_traces.proofs.FlatValues.{flat_at, flat_goes, flat_row, FlatAgree, flat_settled}

module _ (t : Tree) (g : Graph) (fl : IsFlat t g) (whole : IsWhole t) where
  -- numbers that agree on what the flat circuit reaches
  abbrev AgreeFlat : (Occurrence → ℕ) → (Occurrence → ℕ) → Type 0
  AgreeFlat v w = (p : List ℕ) (n : ℕ) → FlatReached t p (node n) → v (record { path = p; node = n }) ≡ w (record { path = []; node = fl.at.node p n })

  module _ (v w : Occurrence → ℕ) (a : AgreeFlat v w) (p : List ℕ) where
    at_id : (id : NodeId) → FlatReached t p (node id.0) → value_at v p id ≡ value_at w [] (id_by (within fl.at p) id)
    at_id id r = a p id.0 r

    on_flat : (o : Option NodeId) → ((id : NodeId) → o ≡ Some id → value_at v p id ≡ value_at w [] (id_by (within fl.at p) id))
        → is_enabled v p o ≡ is_enabled w [] (option_map (id_by (within fl.at p)) o)
    on_flat None h = refl
    on_flat (Some id) h = ap (λ x. x == 1) (h id refl)

    cleared_flat : (o : Option (NodeId × BitVector)) (x y : ℕ) → x ≡ y
        → ((c : NodeId × BitVector) → o ≡ Some c → value_at v p c.0 ≡ value_at w [] (id_by (within fl.at p) c.0))
        → cleared v p o x ≡ cleared w [] (option_map (clear_by (within fl.at p)) o) y
    cleared_flat None x y z h = z
    cleared_flat (Some c) x y z h = ap₂ (λ k l. if k == 1 then c.1.value else l) (h c refl) z

    part_at : (n m : ℕ) (x : Node) → FlatReached t p (node n) → NodeIs t p n x → Has (fanin_of_node x) (node m) → FlatReached t p (node m)
    part_at n m x r y h = to_node r (subst (λ l. Has l (node m)) (sym (ap fanin_of_row y.1 ∙ ap fanin_of_node y.2)) h)

    next_flat : (n : ℕ) (next : NodeId) (enable : Option NodeId) (clear : Option (NodeId × BitVector)) (init : BitVector) (old other : ℕ) → FlatReached t p (node n)
        → NodeIs t p n (Reg next enable clear init) → old ≡ other
        → next_value v p (Reg next enable clear init) old ≡ next_value w [] (node_by (within fl.at p) (Reg next enable clear init)) other
    next_flat n next enable clear init old other r y same =
        cleared_flat clear _ _
        (λ i. if on_flat enable (λ id o. at_id id (part_at n id.0 (Reg next enable clear init) r y
        (later (has_left (clear_node clear) (subst (λ z. Has (optional_node z) (node id.0)) (sym o) first))))) i
        then at_id next (part_at n next.0 (Reg next enable clear init) r y first) i else same i)
        (λ d o. at_id d.0 (part_at n d.0.0 (Reg next enable clear init) r y (later (has_right (optional_node enable) (subst (λ z. Has (clear_node z) (node d.0.0)) (sym o) first)))))

    written_flat : (ws : List WritePort) (place old : ℕ) → ((m : ℕ) → Has (fanin_of_writes ws) (node m) → FlatReached t p (node m))
        → word_after v p ws place old ≡ word_after w [] (map (write_by (within fl.at p)) ws) place old
    written_flat [] place old h = refl
    written_flat (x ∷ ws) place old h =
        let en : value_at v p x.enable ≡ value_at w [] (id_by (within fl.at p) x.enable) = at_id x.enable (h _ first) in
        let ad : value_at v p x.addr ≡ value_at w [] (id_by (within fl.at p) x.addr) = at_id x.addr (h _ (later first)) in
        let va : value_at v p x.value ≡ value_at w [] (id_by (within fl.at p) x.value) = at_id x.value (h _ (later (later first))) in
        ap (λ o. word_after v p ws place o) (λ i. if ((en i == 1) && (ad i == place)) then va i else old)
        ∙ written_flat ws place _ (λ z k. h z (later (later (later k))))

  outputs_flat : (v w : Occurrence → ℕ) → AgreeFlat v w → (ids : List NodeId) → ((id : NodeId) → Has ids id → FlatReached t [] (node id.0))
      → map (value_at v []) ids ≡ map (value_at w []) (map (id_by (within fl.at [])) ids)
  outputs_flat v w a [] h = refl
  outputs_flat v w a (id ∷ ids) h = ap₂ (λ x y. x ∷ y) (a [] id.0 (h id first)) (outputs_flat v w a ids (λ i k. h i (later k)))

  outputs_same : (v w : Occurrence → ℕ) → AgreeFlat v w → outputs_of t v ≡ outputs_of (leaf g) w
  outputs_same v w a = outputs_flat v w a (graph t).outputs (λ id h. output (has_map node_of h)) ∙ ap (map (value_at w [])) (sym fl.outputs)

  module _ (st su : State) (ss : IsStateOf t st) (ls : IsStateOf (leaf g) su) where
    -- where a register stands in both states
    abbrev InBoth : List ℕ → ℕ → Type 0
    InBoth p n = ((x : ℕ) × Has st.registers (record { path = p; node = n }, x)) × ((x : ℕ) × Has su.registers (record { path = []; node = fl.at.node p n }, x))

    in_both : (p : List ℕ) (n : ℕ) (next : NodeId) (enable : Option NodeId) (clear : Option (NodeId × BitVector)) (init : BitVector) → FlatReached t p (node n)
        → NodeIs t p n (Reg next enable clear init) → InBoth p n
    in_both p n next enable clear init r y = (
      (ss.registers (record { path = p; node = n })).0 (y.0, next, enable, clear, init, flat_at t r, y.1, y.2),
      (ls.registers (record { path = []; node = fl.at.node p n })).0 (
        row_by (within fl.at p) y.0,
        id_by (within fl.at p) next,
        option_map (id_by (within fl.at p)) enable,
        option_map (clear_by (within fl.at p)) clear,
        init,
        (tt, flat_goes t g fl r),
        flat_row t g fl p n y.0 r y.1 (ap (is_port_alias p) y.2),
        ap (node_by (within fl.at p)) y.2,
      ),
    )

    module _ (same : FlatAgree t g fl st su) where
      register_edge : (v w : Occurrence → ℕ) → AgreeFlat v w
          → (p : List ℕ) (n : ℕ) (next : NodeId) (enable : Option NodeId) (clear : Option (NodeId × BitVector)) (init : BitVector) → FlatReached t p (node n)
          → NodeIs t p n (Reg next enable clear init)
          → look_up 0 (clock_edge t v st).registers (record { path = p; node = n }) ≡ look_up 0 (clock_edge (leaf g) w su).registers (record { path = []; node = fl.at.node p n })
      register_edge v w a p n next enable clear init r y =
          let b : InBoth p n = in_both p n next enable clear init r y in
          held_number t v st (record { path = p; node = n }) b.0.0 b.0.1
          ∙ ap (number_after v p (look_up 0 st.registers (record { path = p; node = n }))) y.1
          ∙ ap (λ x. next_value v p x (look_up 0 st.registers (record { path = p; node = n }))) y.2
          ∙ next_flat v w a p n next enable clear init _ _ r y (same.registers p n next enable clear init r y)
          ∙ sym (held_number (leaf g) w su (record { path = []; node = fl.at.node p n }) b.1.0 b.1.1
          ∙ ap (number_after w [] (look_up 0 su.registers (record { path = []; node = fl.at.node p n }))) (flat_row t g fl p n y.0 r y.1 (ap (is_port_alias p) y.2))
          ∙ ap (λ x. next_value w [] x (look_up 0 su.registers (record { path = []; node = fl.at.node p n }))) (ap (node_by (within fl.at p)) y.2))

      memory_edge : (v w : Occurrence → ℕ) → AgreeFlat v w → (p : List ℕ) (k : ℕ) → FlatReached t p (mem k)
          → look_up [] (clock_edge t v st).memories (record { path = p; node = k }) ≡ look_up [] (clock_edge (leaf g) w su).memories (record { path = []; node = fl.at.mem p k })
      memory_edge v w a p k r =
          let x : HasRow (graph_at t p) (mem k) = row_in (tree_at t p) (whole_at t whole p (flat_at t r).0) (flat_at t r).1 in
          let z : slice_get g.memories (fl.at.mem p k) ≡ Some (memory_by (within fl.at p) x.0) = fl.memories p k r ∙ ap (option_map (memory_by (within fl.at p))) x.1 in
          let b : (ws : List ℕ) × Has st.memories (record { path = p; node = k }, ws) × (length ws ≡ x.0.size) = (ss.memories (record { path = p; node = k }) x.0.size).0
          (x.0, (flat_at t r).0, (flat_at t r).1, x.1, refl) in
          let c : (ws : List ℕ) × Has su.memories (record { path = []; node = fl.at.mem p k }, ws) × (length ws ≡ x.0.size) =
          (ls.memories (record { path = []; node = fl.at.mem p k }) x.0.size).0 (memory_by (within fl.at p) x.0, tt, flat_goes t g fl r, z, refl) in
          held_words t v st (record { path = p; node = k }) b.0 b.1
          ∙ ap (words_after v p (look_up [] st.memories (record { path = p; node = k }))) x.1
          ∙ map_each (λ (i : ℕ × ℕ). word_after v p x.0.writes i.0 i.1) (λ (i : ℕ × ℕ). word_after w [] (map (write_by (within fl.at p)) x.0.writes) i.0 i.1)
          (enumerate_from 0 (look_up [] st.memories (record { path = p; node = k })))
          (λ i. written_flat v w a p x.0.writes i.0 i.1 (λ m h. to_node r (subst (λ l. Has l (node m)) (sym (ap fanin_of_memory x.1)) h)))
          ∙ ap (λ l. map (λ (i : ℕ × ℕ). word_after w [] (map (write_by (within fl.at p)) x.0.writes) i.0 i.1) (enumerate_from 0 l)) (same.memories p k r)
          ∙ sym (held_words (leaf g) w su (record { path = []; node = fl.at.mem p k }) c.0 c.1
          ∙ ap (words_after w [] (look_up [] su.memories (record { path = []; node = fl.at.mem p k }))) z)

      register_reset : (p : List ℕ) (n : ℕ) (next : NodeId) (enable : Option NodeId) (clear : Option (NodeId × BitVector)) (init : BitVector) → FlatReached t p (node n)
          → NodeIs t p n (Reg next enable clear init)
          → look_up 0 (reset t st).registers (record { path = p; node = n }) ≡ look_up 0 (reset (leaf g) su).registers (record { path = []; node = fl.at.node p n })
      register_reset p n next enable clear init r y =
          let b : InBoth p n = in_both p n next enable clear init r y in
          held_first t st (record { path = p; node = n }) b.0.0 b.0.1 ∙ ap first_by y.1 ∙ ap first_of y.2
          ∙ sym (held_first (leaf g) su (record { path = []; node = fl.at.node p n }) b.1.0 b.1.1 ∙ ap first_by (flat_row t g fl p n y.0 r y.1 (ap (is_port_alias p) y.2))
          ∙ ap first_of (ap (node_by (within fl.at p)) y.2))

  module _ (st su : State) (os : IsInitialState t st) (ol : IsInitialState (leaf g) su) where
    opening_register : (p : List ℕ) (n : ℕ) (next : NodeId) (enable : Option NodeId) (clear : Option (NodeId × BitVector)) (init : BitVector) → FlatReached t p (node n)
        → NodeIs t p n (Reg next enable clear init)
        → look_up 0 st.registers (record { path = p; node = n }) ≡ look_up 0 su.registers (record { path = []; node = fl.at.node p n })
    opening_register p n next enable clear init r y =
        let b : InBoth st su os.whole ol.whole p n = in_both st su os.whole ol.whole p n next enable clear init r y in
        opening_number t st os (record { path = p; node = n }) b.0.0 b.0.1 ∙ ap first_by y.1 ∙ ap first_of y.2
        ∙ sym (opening_number (leaf g) su ol (record { path = []; node = fl.at.node p n }) b.1.0 b.1.1 ∙ ap first_by (flat_row t g fl p n y.0 r y.1 (ap (is_port_alias p) y.2))
        ∙ ap first_of (ap (node_by (within fl.at p)) y.2))

    opening_memory : (p : List ℕ) (k : ℕ) → FlatReached t p (mem k) → look_up [] st.memories (record { path = p; node = k }) ≡ look_up [] su.memories (record { path = []; node = fl.at.mem p k })
    opening_memory p k r =
        let x : HasRow (graph_at t p) (mem k) = row_in (tree_at t p) (whole_at t whole p (flat_at t r).0) (flat_at t r).1 in
        opening_words t st os (record { path = p; node = k }) x.0 (flat_at t r).0 (flat_at t r).1 x.1
        ∙ sym (opening_words (leaf g) su ol (record { path = []; node = fl.at.mem p k }) (memory_by (within fl.at p) x.0) tt (flat_goes t g fl r)
        (fl.memories p k r ∙ ap (option_map (memory_by (within fl.at p))) x.1))

    pub opening_flat : FlatAgree t g fl st su
    opening_flat = record { registers = opening_register; memories = opening_memory }

  module _ (free : ¬ HasCombLoop t) where
    pub trace_of_flat : {su : State} {ins : List ℕ} {count : ℕ} {steps : List Step} {rows : List CycleRow} (st : State) → IsStateOf t st → IsStateOf (leaf g) su
        → FlatAgree t g fl st su → Trace (leaf g) su ins count steps rows → Trace t st ins count steps rows
    trace_of_flat st ss ls a stop = stop
    trace_of_flat st ss ls a (set p x) = set p (trace_of_flat st ss ls a x)
    trace_of_flat {su = su} st ss ls a (start x) =
        start (trace_of_flat (reset t st) (reset_state t st ss) (reset_state (leaf g) su ls) (record { registers = register_reset st su ss ls a; memories = a.memories }) x)
    trace_of_flat st ss ls a (past x) = past (trace_of_flat st ss ls a x)
    trace_of_flat {su = su} {ins = ins} {count = n} st ss ls a (cycle {next = nx} {before = bf} {after = af} {times = times} {steps = steps} {rows = rows} y x) =
        let again : IsSettled (leaf g) (clock_edge (leaf g) y.v su) ins y.w = subst (λ z. IsSettled (leaf g) z ins y.w) y.edge y.settled_again in
        let vt : (u : Occurrence → ℕ) × IsSettled t st ins u = some_settled t whole free st ins in
        let av : AgreeFlat vt.0 y.v = flat_settled t g fl whole free st su a ins vt.0 y.v vt.1 y.settled in
        let b : FlatAgree t g fl (clock_edge t vt.0 st) (clock_edge (leaf g) y.v su) = record
        { registers = register_edge st su ss ls a vt.0 y.v av; memories = memory_edge st su ss ls a vt.0 y.v av } in
        let wt : (u : Occurrence → ℕ) × IsSettled t (clock_edge t vt.0 st) ins u = some_settled t whole free (clock_edge t vt.0 st) ins in
        let aw : AgreeFlat wt.0 y.w = flat_settled t g fl whole free (clock_edge t vt.0 st) (clock_edge (leaf g) y.v su) b ins wt.0 y.w wt.1 again in
        let here : IsCycle t st ins (clock_edge t vt.0 st) bf af = record {
          v = vt.0;
          w = wt.0;
          settled = vt.1;
          edge = refl;
          settled_again = wt.1;
          before_is = y.before_is
              ∙ sym (outputs_same vt.0 y.v av);
          after_is = y.after_is ∙ sym (outputs_same wt.0 y.w aw);
        } in
        cycle here (trace_of_flat (clock_edge t vt.0 st) (edge_state t vt.0 st ss) (subst (IsStateOf (leaf g)) (sym y.edge) (edge_state (leaf g) y.v su ls))
        (subst (FlatAgree t g fl (clock_edge t vt.0 st)) (sym y.edge) b) x)
