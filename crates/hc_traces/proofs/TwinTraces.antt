-- Trees that are the same give a bench the same rows.
use Rattle.std.proofs.Common.{◌≡◌, ℕ, ◌⊎◌, Bool, true, false, ◌&&◌, ◌==◌, List, [], ◌∷◌, map, length, refl, sym, subst, ◌∙◌, ap, ap₂, inl, inr, eqb-true, eq-eqb, true≢false}
use Rattle.std.specs.Prelude.{slice_get, replicate, unwrap_or, if◌then◌else◌, Option, Some, None, option_map, nat_eq}
use Rattle.std.specs.List.{enumerate_from}
use Rattle.std.specs.Cmp.Lexicographic.{pointwise}
use Rattle.hc_signal.specs.Member.{Has, first, later}
use Rattle.hc_walk.proofs.Members.{has_map, has_left, has_right}
use Rattle.hc_signal.specs.declared.signal.NodeId.{NodeId}
use Rattle.hc_signal.specs.declared.signal.NodeRow.{NodeRow}
use Rattle.hc_signal.specs.declared.signal.Memory.{Memory}
use Rattle.hc_signal.specs.declared.signal.WritePort.{WritePort}
use Rattle.hc_signal.specs.declared.signal.Node.{Node}
use Rattle.hc_signal.specs.declared.signal.Node.TheVariants.{Reg}
use Rattle.hc_bits.specs.BitVector.{BitVector}
use Rattle.hc_signal.specs.Graph.{Vertex, node, mem, Reached, output, further, fanin_of_writes, fanin_of_memory, node_of, optional_node, clear_node}
use Rattle.hc_signal.specs.Tree.{Tree, graph, IsWhole}
use Rattle.hc_signal.specs.Renumber.{Renumbering, id_by, clear_by, node_by, write_by, memory_by}
use Rattle.hc_canon.specs.Same.{IsIsomorphism, Same}
use Rattle.hc_signal.specs.Occurrences.{Occurrence, tree_at, graph_at, row_at, NodeIs, IsReachedPath, HasCombLoop}
use Rattle.hc_bench.specs.Simulation.{State, IsInitialState, IsStateOf, IsMemory, IsSettled, look_up, same_occurrence, value_at, is_enabled, cleared, next_value, next_register, word_after, next_memory, clock_edge, reset, initial_register, outputs_of}
use Rattle.hc_bench.specs.Listing.{CycleRow}
use Rattle.hc_bench.specs.Trace.{Trace, stop, set, start, past, cycle, IsCycle}
use Rattle.hc_paths.proofs.Composed.{reached_fanin}
use Rattle.hc_trees.specs.Twins.{Partners, top, Twin, SomePairs, HavePartners}
use Rattle.hc_canon.proofs.Isomorphisms.{reached_to, same-sym}
use Rattle.hc_walk.proofs.InRange.{HasRow}
use Rattle.hc_traces.proofs.Settling.{row_in, whole_at, some_settled}
use Rattle.hc_traces.proofs.Traces.{edge_state, reset_state}
use Rattle.hc_bench.specs.declared.kinds.Step.{Step}
use Rattle.hc_traces.proofs.TwinValues.{StatesAgree, settled_twins}

-- equal occurrences
and_left : (a b : Bool) → (a && b) ≡ true → a ≡ true
and_left true b e = refl
and_left false b e = e

and_right : (a b : Bool) → (a && b) ≡ true → b ≡ true
and_right true b e = e
and_right false b e = absurd (true≢false (sym e))

path_equal : (xs ys : List ℕ) → pointwise nat_eq xs ys ≡ true → xs ≡ ys
path_equal [] [] e = refl
path_equal [] (y ∷ ys) e = absurd (true≢false (sym e))
path_equal (x ∷ xs) [] e = absurd (true≢false (sym e))
path_equal (x ∷ xs) (y ∷ ys) e = ap₂ (λ a b. a ∷ b) (eqb-true x y (and_left (nat_eq x y) (pointwise nat_eq xs ys) e)) (path_equal xs ys (and_right (nat_eq x y) (pointwise nat_eq xs ys) e))

path_itself : (xs : List ℕ) → pointwise nat_eq xs xs ≡ true
path_itself [] = refl
path_itself (x ∷ xs) = ap₂ (λ a b. a && b) (eq-eqb x x refl) (path_itself xs)

spot_equal : (s r : Occurrence) → same_occurrence s r ≡ true → s ≡ r
spot_equal s r e =
    ap₂ (λ a b. record { path = a; node = b }) (path_equal s.path r.path (and_left (pointwise nat_eq s.path r.path) (s.node == r.node) e))
    (eqb-true s.node r.node (and_right (pointwise nat_eq s.path r.path) (s.node == r.node) e))

spot_itself : (s : Occurrence) → same_occurrence s s ≡ true
spot_itself s = ap₂ (λ a b. a && b) (path_itself s.path) (eq-eqb s.node s.node refl)

-- what a list has after a change of each value
abbrev pub changed_by : {X : Type 0} → (Occurrence → X → X) → Occurrence × X → Occurrence × X
changed_by h e = (e.0, h e.0 e.1)

has_split : {X : Type 0} {x y : X} {ys : List X} → Has (y ∷ ys) x → (y ≡ x) ⊎ Has ys x
has_split first = inl refl
has_split (later k) = inr k

held_step : {X : Type 0} (h : Occurrence → X → X) (e : Occurrence × X) (s : Occurrence) (x : X) (left right : X) (b : Bool) → same_occurrence e.0 s ≡ b
    → (same_occurrence e.0 s ≡ false → left ≡ h s right) → (if b then h e.0 e.1 else left) ≡ h s (if b then e.1 else right)
held_step h e s x left right true q ih = ap (λ k. h k e.1) (spot_equal e.0 s q)
held_step h e s x left right false q ih = ih q

not_first : {X : Type 0} (e : Occurrence × X) (s : Occurrence) (x : X) (P : Type 0) → same_occurrence e.0 s ≡ false → (e ≡ (s, x)) → P
not_first e s x P q o = absurd (true≢false (sym (ap (λ z. same_occurrence z.0 s) o ∙ spot_itself s) ∙ q))

pub held_changed : {X : Type 0} (d : X) (h : Occurrence → X → X) (es : List (Occurrence × X)) (s : Occurrence) (x : X) → Has es (s, x) → look_up d (map (changed_by h) es) s ≡ h s (look_up d es s)
held_changed d h [] s x c = elim c [ ]
held_changed {X} d h (e ∷ es) s x c =
    held_step h e s x (look_up d (map (changed_by h) es) s) (look_up d es s) (same_occurrence e.0 s) refl
    (λ q. elim (has_split c) [ inl o ↦ not_first e s x (look_up d (map (changed_by h) es) s ≡ h s (look_up d es s)) q o | inr k ↦ held_changed d h es s x k ])

-- the clock edge at twins
module _ (s t : Tree) (v w : Occurrence → ℕ) (twins : (p : List ℕ) (n : ℕ) (q : List ℕ) (m : ℕ) → IsReachedPath s p → Twin s t p n q m → v (record { path = p; node = n }) ≡ w
    (record { path = q; node = m })) where
  module _ (p q : List ℕ) (to back : Renumbering) (u : Partners s t p q) (e : IsIsomorphism to back (graph_at s p) (graph_at t q)) (r : IsReachedPath s p) where
    at_id : (id : NodeId) → Reached (graph_at s p) (node id.0) → value_at v p id ≡ value_at w q (id_by to id)
    at_id id c = twins p id.0 q (to.node id.0) r (record { paths = u; to = to; back = back; pairs = e; reached = c; goes = refl })

    on_twin : (o : Option NodeId) → ((id : NodeId) → o ≡ Some id → value_at v p id ≡ value_at w q (id_by to id)) → is_enabled v p o ≡ is_enabled w q (option_map (id_by to) o)
    on_twin None h = refl
    on_twin (Some id) h = ap (λ x. x == 1) (h id refl)

    cleared_twin : (o : Option (NodeId × BitVector)) (x y : ℕ) → x ≡ y → ((c : NodeId × BitVector) → o ≡ Some c → value_at v p c.0 ≡ value_at w q (id_by to c.0))
        → cleared v p o x ≡ cleared w q (option_map (clear_by to) o) y
    cleared_twin None x y z h = z
    cleared_twin (Some c) x y z h = ap₂ (λ k l. if k == 1 then c.1.value else l) (h c refl) z

    next_twin : (n : ℕ) (row : NodeRow) (next : NodeId) (enable : Option NodeId) (clear : Option (NodeId × BitVector)) (init : BitVector) (old other : ℕ)
        → Reached (graph_at s p) (node n) → slice_get (graph_at s p).nodes n ≡ Some row → row.node ≡ Reg next enable clear init → old ≡ other
        → next_value v p (Reg next enable clear init) old ≡ next_value w q (node_by to (Reg next enable clear init)) other
    next_twin n row next enable clear init old other c f x same =
        cleared_twin clear _ _
        (λ i. if on_twin enable (λ id o. at_id id (reached_fanin (graph_at s p) n (Reg next enable clear init) (node id.0) row f x c
        (later (has_left (clear_node clear) (subst (λ z. Has (optional_node z) (node id.0)) (sym o) first))))) i
        then at_id next (reached_fanin (graph_at s p) n (Reg next enable clear init) (node next.0) row f x c first) i else same i)
        (λ d o. at_id d.0 (reached_fanin (graph_at s p) n (Reg next enable clear init) (node d.0.0) row f x c
        (later (has_right (optional_node enable) (subst (λ z. Has (clear_node z) (node d.0.0)) (sym o) first)))))

    written_twin : (ws : List WritePort) (place old : ℕ) → ((z : Vertex) → Has (fanin_of_writes ws) z → Reached (graph_at s p) z)
        → word_after v p ws place old ≡ word_after w q (map (write_by to) ws) place old
    written_twin [] place old h = refl
    written_twin (x ∷ ws) place old h =
        let en : value_at v p x.enable ≡ value_at w q (id_by to x.enable) = at_id x.enable (h _ first) in
        let ad : value_at v p x.addr ≡ value_at w q (id_by to x.addr) = at_id x.addr (h _ (later first)) in
        let va : value_at v p x.value ≡ value_at w q (id_by to x.value) = at_id x.value (h _ (later (later first))) in
        ap (λ o. word_after v p ws place o) (λ i. if ((en i == 1) && (ad i == place)) then va i else old)
        ∙ written_twin ws place _ (λ z k. h z (later (later (later k))))

  outputs_twin : (to back : Renumbering) (u : Partners s t [] []) (e : IsIsomorphism to back (graph s) (graph t)) (ids : List NodeId)
      → ((id : NodeId) → Has ids id → Reached (graph s) (node id.0)) → map (value_at v []) ids ≡ map (value_at w []) (map (id_by to) ids)
  outputs_twin to back u e [] h = refl
  outputs_twin to back u e (id ∷ ids) h = ap₂ (λ a b. a ∷ b) (at_id [] [] to back u e tt id (h id first)) (outputs_twin to back u e ids (λ i k. h i (later k)))

-- The number of a register and the words of a memory after the clock edge, by the row.
abbrev pub number_after : (Occurrence → ℕ) → List ℕ → ℕ → Option NodeRow → ℕ
number_after u path old None = old
number_after u path old (Some row) = next_value u path row.node old

abbrev pub words_after : (Occurrence → ℕ) → List ℕ → List ℕ → Option Memory → List ℕ
words_after u path old None = old
words_after u path old (Some m) = map (λ (p : ℕ × ℕ). word_after u path m.writes p.0 p.1) (enumerate_from 0 old)

pub held_number : (t : Tree) (v : Occurrence → ℕ) (state : State) (k : Occurrence) (x : ℕ) → Has state.registers (k, x)
    → look_up 0 (clock_edge t v state).registers k ≡ number_after v k.path (look_up 0 state.registers k) (row_at t k)
held_number t v state k x h = held_changed 0 (λ s old. (next_register t v (s, old)).1) state.registers k x h

pub held_words : (t : Tree) (v : Occurrence → ℕ) (state : State) (k : Occurrence) (x : List ℕ) → Has state.memories (k, x)
    → look_up [] (clock_edge t v state).memories k ≡ words_after v k.path (look_up [] state.memories k) (slice_get (graph_at t k.path).memories k.node)
held_words t v state k x h = held_changed [] (λ s old. (next_memory t v (s, old)).1) state.memories k x h

pub map_each : (f g : ℕ × ℕ → ℕ) (xs : List (ℕ × ℕ)) → ((x : ℕ × ℕ) → f x ≡ g x) → map f xs ≡ map g xs
map_each f g [] h = refl
map_each f g (x ∷ xs) h = ap₂ (λ a b. a ∷ b) (h x) (map_each f g xs h)

module _ (laws : HavePartners) (s t : Tree) (whole : IsWhole s) (v w : Occurrence → ℕ) (twins : (p : List ℕ) (n : ℕ) (q : List ℕ) (m : ℕ) → IsReachedPath s p → Twin s t p n q m
    → v (record { path = p; node = n }) ≡ w (record { path = q; node = m }))
    (st su : State) (ss : IsStateOf s st) (ts : IsStateOf t su) (same : StatesAgree s t st su) where
  register_edge : (p : List ℕ) (n : ℕ) (q : List ℕ) (m : ℕ) (next : NodeId) (enable : Option NodeId) (clear : Option (NodeId × BitVector)) (init : BitVector)
      → NodeIs s p n (Reg next enable clear init) → Twin s t p n q m
      → look_up 0 (clock_edge s v st).registers (record { path = p; node = n }) ≡ look_up 0 (clock_edge t w su).registers (record { path = q; node = m })
  register_edge p n q m next enable clear init y tw =
      let r : IsReachedPath s p = laws.first_path s t tw.paths in
      let z : NodeIs t q m (node_by tw.to (Reg next enable clear init)) = laws.row s t (Reg next enable clear init) tw y in
      let a : (x : ℕ) × Has st.registers (record { path = p; node = n }, x) = (ss.registers (record { path = p; node = n })).0 (y.0, next, enable, clear, init, (r, tw.reached), y.1, y.2) in
      let b : (x : ℕ) × Has su.registers (record { path = q; node = m }, x) =
      (ts.registers (record { path = q; node = m })).0 (z.0, id_by tw.to next, option_map (id_by tw.to) enable, option_map (clear_by tw.to) clear, init, laws.twin_reached s t tw, z.1, z.2) in
      held_number s v st (record { path = p; node = n }) a.0 a.1
      ∙ ap (number_after v p (look_up 0 st.registers (record { path = p; node = n }))) y.1
      ∙ ap (λ x. next_value v p x (look_up 0 st.registers (record { path = p; node = n }))) y.2
      ∙ next_twin s t v w twins p q tw.to tw.back tw.paths tw.pairs r n y.0 next enable clear init _ _ tw.reached y.1 y.2 (same.registers p n q m next enable clear init y tw)
      ∙ sym (held_number t w su (record { path = q; node = m }) b.0 b.1
      ∙ ap (number_after w q (look_up 0 su.registers (record { path = q; node = m }))) z.1
      ∙ ap (λ x. next_value w q x (look_up 0 su.registers (record { path = q; node = m }))) z.2)

  memory_edge : (p q : List ℕ) (to back : Renumbering) (k : ℕ) → Partners s t p q → IsIsomorphism to back (graph_at s p) (graph_at t q) → Reached (graph_at s p) (mem k)
      → look_up [] (clock_edge s v st).memories (record { path = p; node = k }) ≡ look_up [] (clock_edge t w su).memories (record { path = q; node = to.mem k })
  memory_edge p q to back k u e c =
      let r : IsReachedPath s p = laws.first_path s t u in
      let x : HasRow (graph_at s p) (mem k) = row_in (tree_at s p) (whole_at s whole p r) c in
      let z : slice_get (graph_at t q).memories (to.mem k) ≡ Some (memory_by to x.0) = e.memories k c ∙ ap (option_map (memory_by to)) x.1 in
      let a : (ws : List ℕ) × Has st.memories (record { path = p; node = k }, ws) × (length ws ≡ x.0.size) = (ss.memories (record { path = p; node = k }) x.0.size).0 (x.0, r, c, x.1, refl) in
      let b : (ws : List ℕ) × Has su.memories (record { path = q; node = to.mem k }, ws) × (length ws ≡ x.0.size) =
      (ts.memories (record { path = q; node = to.mem k }) x.0.size).0 (memory_by to x.0, laws.second_path s t u, reached_to to back (graph_at s p) (graph_at t q) e c, z, refl) in
      held_words s v st (record { path = p; node = k }) a.0 a.1
      ∙ ap (words_after v p (look_up [] st.memories (record { path = p; node = k }))) x.1
      ∙ map_each (λ (i : ℕ × ℕ). word_after v p x.0.writes i.0 i.1) (λ (i : ℕ × ℕ). word_after w q (map (write_by to) x.0.writes) i.0 i.1)
      (enumerate_from 0 (look_up [] st.memories (record { path = p; node = k })))
      (λ i. written_twin s t v w twins p q to back u e r x.0.writes i.0 i.1 (λ g h. further (mem k) g c (subst (λ l. Has l g) (sym (ap fanin_of_memory x.1)) h)))
      ∙ ap (λ l. map (λ (i : ℕ × ℕ). word_after w q (map (write_by to) x.0.writes) i.0 i.1) (enumerate_from 0 l)) (same.memories p q to back k u e c)
      ∙ sym (held_words t w su (record { path = q; node = to.mem k }) b.0 b.1
      ∙ ap (words_after w q (look_up [] su.memories (record { path = q; node = to.mem k }))) z)

  pub agree_edge : StatesAgree s t (clock_edge s v st) (clock_edge t w su)
  agree_edge = record { registers = register_edge; memories = memory_edge }

-- The numbers at the start.
abbrev pub first_of : Node → ℕ
first_of (Reg next enable clear init) = init.value
first_of other = 0

abbrev pub first_by : Option NodeRow → ℕ
first_by None = 0
first_by (Some row) = first_of row.node

pub held_first : (t : Tree) (state : State) (k : Occurrence) (x : ℕ) → Has state.registers (k, x) → look_up 0 (reset t state).registers k ≡ first_by (row_at t k)
held_first t state k x h = held_changed 0 (λ s old. (initial_register t (s, old)).1) state.registers k x h

module _ (laws : HavePartners) (s t : Tree) (st su : State) (ss : IsStateOf s st) (ts : IsStateOf t su) (same : StatesAgree s t st su) where
  register_reset : (p : List ℕ) (n : ℕ) (q : List ℕ) (m : ℕ) (next : NodeId) (enable : Option NodeId) (clear : Option (NodeId × BitVector)) (init : BitVector)
      → NodeIs s p n (Reg next enable clear init) → Twin s t p n q m
      → look_up 0 (reset s st).registers (record { path = p; node = n }) ≡ look_up 0 (reset t su).registers (record { path = q; node = m })
  register_reset p n q m next enable clear init y tw =
      let r : IsReachedPath s p = laws.first_path s t tw.paths in
      let z : NodeIs t q m (node_by tw.to (Reg next enable clear init)) = laws.row s t (Reg next enable clear init) tw y in
      let a : (x : ℕ) × Has st.registers (record { path = p; node = n }, x) = (ss.registers (record { path = p; node = n })).0 (y.0, next, enable, clear, init, (r, tw.reached), y.1, y.2) in
      let b : (x : ℕ) × Has su.registers (record { path = q; node = m }, x) =
      (ts.registers (record { path = q; node = m })).0 (z.0, id_by tw.to next, option_map (id_by tw.to) enable, option_map (clear_by tw.to) clear, init, laws.twin_reached s t tw, z.1, z.2) in
      held_first s st (record { path = p; node = n }) a.0 a.1 ∙ ap first_by y.1 ∙ ap first_of y.2
      ∙ sym (held_first t su (record { path = q; node = m }) b.0 b.1 ∙ ap first_by z.1 ∙ ap first_of z.2)

  pub agree_reset : StatesAgree s t (reset s st) (reset t su)
  agree_reset = record { registers = register_reset; memories = same.memories }

-- The same rows.
module _ (laws : HavePartners) (s t : Tree) (e : Same s t) (whole : IsWhole s) (other : IsWhole t) (free : ¬ HasCombLoop s) (free_too : ¬ HasCombLoop t) where
  outputs_same : (v w : Occurrence → ℕ)
      → ((p : List ℕ) (n : ℕ) (q : List ℕ) (m : ℕ) → IsReachedPath s p → Twin s t p n q m → v (record { path = p; node = n }) ≡ w (record { path = q; node = m }))
      → outputs_of s v ≡ outputs_of t w
  outputs_same v w twins =
      let z : SomePairs (graph s) (graph t) = laws.graphs s t e in
      outputs_twin s t v w twins z.0 z.1 top z.2 (graph s).outputs (λ id h. output (node id.0) (has_map node_of h)) ∙ ap (map (value_at w [])) (sym z.2.outputs)

  pub trace_of_same : {st : State} {ins : List ℕ} {count : ℕ} {steps : List Step} {rows : List CycleRow} (su : State) → IsStateOf s st → IsStateOf t su
      → StatesAgree s t st su → Trace s st ins count steps rows → Trace t su ins count steps rows
  trace_of_same su ss ts a stop = stop
  trace_of_same su ss ts a (set p x) = set p (trace_of_same su ss ts a x)
  trace_of_same {st = st} su ss ts a (start x) = start (trace_of_same (reset t su) (reset_state s st ss) (reset_state t su ts) (agree_reset laws s t st su ss ts a) x)
  trace_of_same su ss ts a (past x) = past (trace_of_same su ss ts a x)
  trace_of_same {st = st} {ins = ins} {count = n} su ss ts a (cycle {next = nx} {before = bf} {after = af} {times = times} {steps = steps} {rows = rows} y x) =
      let again : IsSettled s (clock_edge s y.v st) ins y.w = subst (λ z. IsSettled s z ins y.w) y.edge y.settled_again in
      let vt : (u : Occurrence → ℕ) × IsSettled t su ins u = some_settled t other free_too su ins in
      let tv : _ = settled_twins laws s t e whole free st su a ins y.v vt.0 y.settled vt.1 in
      let b : StatesAgree s t (clock_edge s y.v st) (clock_edge t vt.0 su) = agree_edge laws s t whole y.v vt.0 (λ p n q m r z. tv p n q m r z) st su ss ts a in
      let wt : (u : Occurrence → ℕ) × IsSettled t (clock_edge t vt.0 su) ins u = some_settled t other free_too (clock_edge t vt.0 su) ins in
      let tw : _ = settled_twins laws s t e whole free (clock_edge s y.v st) (clock_edge t vt.0 su) b ins y.w wt.0 again wt.1 in
      let here : IsCycle t su ins (clock_edge t vt.0 su) bf af = record {
        v = vt.0;
        w = wt.0;
        settled = vt.1;
        edge = refl;
        settled_again = wt.1;
        before_is = y.before_is
            ∙ outputs_same y.v vt.0 (λ p n q m r z. tv p n q m r z);
        after_is = y.after_is ∙ outputs_same y.w wt.0 (λ p n q m r z. tw p n q m r z);
      } in
      cycle here (trace_of_same (clock_edge t vt.0 su) (subst (IsStateOf s) (sym y.edge) (edge_state s y.v st ss)) (edge_state t vt.0 su ts)
      (subst (λ z. StatesAgree s t z (clock_edge t vt.0 su)) (sym y.edge) b) x)

-- Initial states agree.
pub held_has : {X : Type 0} (d : X) (es : List (Occurrence × X)) (s : Occurrence) (x : X) → Has es (s, x) → Has es (s, look_up d es s)
held_has d [] s x c = elim c [ ]
held_has {X} d (e ∷ es) s x c =
    held_found e es s (look_up d es s) (same_occurrence e.0 s) refl
    (λ q. elim (has_split c) [ inl o ↦ not_first e s x (Has es (s, look_up d es s)) q o | inr k ↦ held_has d es s x k ])
  where
    held_found : (e : Occurrence × X) (es : List (Occurrence × X)) (s : Occurrence) (right : X) (b : Bool) → same_occurrence e.0 s ≡ b
        → (same_occurrence e.0 s ≡ false → Has es (s, right)) → Has (e ∷ es) (s, if b then e.1 else right)
    held_found e es s right true q ih = subst (λ k. Has (e ∷ es) (k, e.1)) (spot_equal e.0 s q) first
    held_found e es s right false q ih = later (ih q)

pub opening_number : (t : Tree) (state : State) → IsInitialState t state → (k : Occurrence) (x : ℕ) → Has state.registers (k, x) → look_up 0 state.registers k ≡ first_by (row_at t k)
opening_number t state o k x h = ap (λ l. look_up 0 l k) (sym o.registers) ∙ held_first t state k x h

pub opening_words : (t : Tree) (state : State) → IsInitialState t state → (k : Occurrence) (m : Memory) → IsReachedPath t k.path
    → Reached (graph_at t k.path) (mem k.node) → slice_get (graph_at t k.path).memories k.node ≡ Some m → look_up [] state.memories k ≡ replicate m.size 0
opening_words t state o k m r c q =
    let a : (ws : List ℕ) × Has state.memories (k, ws) × (length ws ≡ m.size) = (o.whole.memories k m.size).0 (m, r, c, q, refl) in
    let h : Has state.memories (k, look_up [] state.memories k) = held_has [] state.memories k a.0 a.1 in
    let b : IsMemory t k (length (look_up [] state.memories k)) = (o.whole.memories k (length (look_up [] state.memories k))).1 (look_up [] state.memories k, h, refl) in
    let l : m.size ≡ b.0.size = ap (λ z. (unwrap_or z m).size) (sym q ∙ b.3) in
    o.words k (look_up [] state.memories k) h ∙ ap (λ n. replicate n 0) (sym b.4 ∙ sym l)

module _ (laws : HavePartners) (s t : Tree) (whole : IsWhole s) (st su : State) (os : IsInitialState s st) (ot : IsInitialState t su) where
  register_opening : (p : List ℕ) (n : ℕ) (q : List ℕ) (m : ℕ) (next : NodeId) (enable : Option NodeId) (clear : Option (NodeId × BitVector)) (init : BitVector)
      → NodeIs s p n (Reg next enable clear init) → Twin s t p n q m
      → look_up 0 st.registers (record { path = p; node = n }) ≡ look_up 0 su.registers (record { path = q; node = m })
  register_opening p n q m next enable clear init y tw =
      let r : IsReachedPath s p = laws.first_path s t tw.paths in
      let z : NodeIs t q m (node_by tw.to (Reg next enable clear init)) = laws.row s t (Reg next enable clear init) tw y in
      let a : (x : ℕ) × Has st.registers (record { path = p; node = n }, x) = (os.whole.registers (record { path = p; node = n })).0 (y.0, next, enable, clear, init, (r, tw.reached), y.1, y.2) in
      let b : (x : ℕ) × Has su.registers (record { path = q; node = m }, x) =
      (ot.whole.registers (record { path = q; node = m })).0 (z.0, id_by tw.to next, option_map (id_by tw.to) enable, option_map (clear_by tw.to) clear, init, laws.twin_reached s t tw, z.1, z.2) in
      opening_number s st os (record { path = p; node = n }) a.0 a.1 ∙ ap first_by y.1 ∙ ap first_of y.2
      ∙ sym (opening_number t su ot (record { path = q; node = m }) b.0 b.1 ∙ ap first_by z.1 ∙ ap first_of z.2)

  memory_opening : (p q : List ℕ) (to back : Renumbering) (k : ℕ) → Partners s t p q → IsIsomorphism to back (graph_at s p) (graph_at t q) → Reached (graph_at s p) (mem k)
      → look_up [] st.memories (record { path = p; node = k }) ≡ look_up [] su.memories (record { path = q; node = to.mem k })
  memory_opening p q to back k u e c =
      let r : IsReachedPath s p = laws.first_path s t u in
      let x : HasRow (graph_at s p) (mem k) = row_in (tree_at s p) (whole_at s whole p r) c in
      opening_words s st os (record { path = p; node = k }) x.0 r c x.1
      ∙ sym (opening_words t su ot (record { path = q; node = to.mem k }) (memory_by to x.0) (laws.second_path s t u) (reached_to to back (graph_at s p) (graph_at t q) e c)
      (e.memories k c ∙ ap (option_map (memory_by to)) x.1))

  pub agree_opening : StatesAgree s t st su
  agree_opening = record { registers = register_opening; memories = memory_opening }

-- trees that are the same run alike from their initial states
pub runs_of_same : HavePartners → (s t : Tree) → Same s t → IsWhole s → IsWhole t → ¬ HasCombLoop s → ¬ HasCombLoop t → (st su : State) → IsInitialState s st
    → IsInitialState t su → (inputs : List ℕ) (count : ℕ) (steps : List Step) (rows : List CycleRow) → Trace s st inputs count steps rows
    → Trace t su inputs count steps rows
runs_of_same laws s t e whole other free free_too st su os ot inputs count steps rows x = trace_of_same laws s t e whole other free free_too su os.whole ot.whole
    (agree_opening laws s t whole st su os ot) x
