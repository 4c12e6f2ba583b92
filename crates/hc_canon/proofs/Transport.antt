-- The circuit laid out by a walk is lawful, and keeps the rules that the one walked meets.
use Rattle.std.proofs.Common.{◌≡◌, ℕ, ◌+◌, ◌^◌, ◌<◌, ◌≤◌, ◌⊎◌, List, [], ◌∷◌, ◌++◌, map, length, refl, sym, subst, ◌∙◌, ap, inl, inr, arith}
use Rattle.std.proofs.lemmas.List.{length-map}
use Rattle.std.proofs.lemmas.Option.{slice_get-map}
use Rattle.std.specs.Prelude.{slice_get, Option, Some, None, option_map, unwrap_or}
use Rattle.hc_signal.specs.Member.{Has, first, later}
use Rattle.hc_walk.proofs.Members.{has_map, has_from_map, has_left, has_right, has_slice}
use Rattle.hc_signal.specs.declared.signal.Port.{Port}
use Rattle.hc_signal.specs.declared.signal.NodeId.{NodeId}
use Rattle.hc_signal.specs.declared.signal.InstId.{InstId}
use Rattle.hc_signal.specs.declared.signal.NodeRow.{NodeRow}
use Rattle.hc_signal.specs.declared.signal.Node.{Node}
use Rattle.hc_signal.specs.declared.signal.Node.TheVariants.{Input, Wire, Const, Two, Not, Mux, Cat, Select, Reg, Read, InstOut, Op}
use Rattle.hc_signal.specs.declared.signal.Memory.{Memory}
use Rattle.hc_signal.specs.declared.signal.WritePort.{WritePort}
use Rattle.hc_signal.specs.declared.signal.Instance.{Instance}
use Rattle.hc_bits.specs.BitVector.{BitVector, IsWidth}
use Rattle.hc_signal.specs.Graph.{Graph, Vertex, node, mem, inst, Reached, output, further, fanin_of_node, fanin_of_row, fanin_of_memory, fanin_of_instance, fanin_of_writes, nodes_of, node_of, optional_node, clear_node}
use Rattle.hc_signal.specs.Lawful.{IsLawful, IsLawfulNode, IsLawfulWrite, IsLawfulMemory, IsLawfulInstance, NodeAt, HasWidth, HaveWidths, MayHaveWidth, MayClear, AllHaveWidth}
use Rattle.hc_signal.specs.Renumber.{Renumbering, renumber, id_by, clear_by, row_by, node_by, write_by, memory_by, instance_by}
use Rattle.hc_canon.specs.Same.{IsIsomorphism}
use Rattle.hc_walk.specs.DepthFirst.{NumbersTo}
use Rattle.hc_canon.specs.Numbering.{nodes_met, memories_met, instances_met, input_row}
use Rattle.hc_signal.specs.Checked.{IsChecked}
use Rattle.hc_canon.specs.Layout.{input_rows, picked, laid_out, AreNumbers}
use Rattle.hc_canon.proofs.Renumbered.{number}
use Rattle.hc_canon.proofs.Isomorphisms.{reached_from, HasPartner, partners_equal}
use Rattle.hc_walk.proofs.Walks.{walk_sound, AllReached}
use Rattle.hc_canon.proofs.Canonical.{met_from_nodes, met_from_memories, met_from_instances}
use Rattle.hc_canon.proofs.LaidOut.{has_index, slice_cases, input_rows_at, input_rows_length, picked_from, IsPicked, back, all_nodes, all_memories, all_instances, laid_out_isomorphism, input_at, nodes_length, picked_length}
use Rattle.hc_canon.proofs.Fits.{nodes_fit, memories_fit, instances_fit}

reached_first : (g : Graph) (p : Vertex) (ps : List Vertex) → AllReached g (p ∷ ps) → Reached g p
reached_first g p ps a = a p first

reached_rest : (g : Graph) (p : Vertex) (ps : List Vertex) → AllReached g (p ∷ ps) → AllReached g ps
reached_rest g p ps a q h = a q (later h)

reached_left : (g : Graph) (ps qs : List Vertex) → AllReached g (ps ++ qs) → AllReached g ps
reached_left g ps qs a q h = a q (has_left qs h)

reached_right : (g : Graph) (ps qs : List Vertex) → AllReached g (ps ++ qs) → AllReached g qs
reached_right g ps qs a q h = a q (has_right ps h)

-- along an isomorphism
module _ (to back : Renumbering) (g h : Graph) (e : IsIsomorphism to back g h) where
  width_to : (id : NodeId) (w : ℕ) → Reached g (node id.0) → HasWidth g id w → HasWidth h (id_by to id) w
  width_to id w r u = (row_by to u.0, e.nodes id.0 r ∙ ap (option_map (row_by to)) u.1, u.2)

  all_width_to : (ids : List NodeId) (w : ℕ) → AllReached g (nodes_of ids) → AllHaveWidth g ids w → AllHaveWidth h (map (id_by to) ids) w
  all_width_to ids w a u id k =
      let m : _ = has_from_map (id_by to) ids id k in
      subst (λ x. HasWidth h x w) m.2 (width_to m.0 w (a (node m.0.0) (has_map node_of m.1)) (u m.0 m.1))

  widths_to : (ids : List NodeId) (ws : List ℕ) → AllReached g (nodes_of ids) → HaveWidths g ids ws → HaveWidths h (map (id_by to) ids) ws
  widths_to [] [] a u = tt
  widths_to [] (w ∷ ws) a u = absurd u
  widths_to (id ∷ ids) [] a u = absurd u
  widths_to (id ∷ ids) (w ∷ ws) a u = (width_to id w (reached_first g (node id.0) (nodes_of ids) a) u.0, widths_to ids ws (reached_rest g (node id.0) (nodes_of ids) a) u.1)

  may_width_to : (o : Option NodeId) (w : ℕ) → AllReached g (optional_node o) → MayHaveWidth g o w → MayHaveWidth h (option_map (id_by to) o) w
  may_width_to None w a u = tt
  may_width_to (Some id) w a u = width_to id w (reached_first g (node id.0) [] a) u

  may_clear_to : (o : Option (NodeId × BitVector)) (w : ℕ) → AllReached g (clear_node o) → MayClear g o w → MayClear h (option_map (clear_by to) o) w
  may_clear_to None w a u = tt
  may_clear_to (Some c) w a u = (width_to c.0 1 (reached_first g (node c.0.0) [] a) u.0, u.1)

  node_to : (w : ℕ) (x : Node) → AllReached g (fanin_of_node x) → IsLawfulNode g w x → IsLawfulNode h w (node_by to x)
  node_to w (Input port) a u = subst (λ ps. (p : Port) × (slice_get ps.inputs port ≡ Some p) × (p.width ≡ w)) (sym e.ports) u
  node_to w (Wire driver) a u = may_width_to driver w a u
  node_to w (Const value) a u = u
  node_to w (Two op x y) a u = (u.0, u.1, width_to x u.0 (reached_first g (node x.0) _ a) u.2, width_to y u.1 (reached_first g (node y.0) [] (reached_rest g (node x.0) (node y.0 ∷ []) a)) u.3, u.4)
  node_to w (Not x) a u = width_to x w (reached_first g (node x.0) [] a) u
  node_to w (Mux sel cases) a u = (
    u.0,
    width_to sel u.0 (reached_first g (node sel.0) (nodes_of cases) a) u.1,
    subst (λ n. 2 ≤ n) (sym (length-map cases (id_by to))) u.2,
    subst (λ n. n ≤ 2 ^ u.0) (sym (length-map cases (id_by to))) u.3,
    all_width_to cases w (reached_rest g (node sel.0) (nodes_of cases) a) u.4,
  )
  node_to w (Cat ps) a u = (u.0, subst (λ n. 2 ≤ n) (sym (length-map ps (id_by to))) u.1, widths_to ps u.0 a u.2, u.3)
  node_to w (Select x hi lo) a u = (u.0, width_to x u.0 (reached_first g (node x.0) [] a) u.1, u.2, u.3, u.4)
  node_to w (Reg next enable clear init) a u =
      let rest : AllReached g (optional_node enable ++ clear_node clear) = reached_rest g (node next.0) (optional_node enable ++ clear_node clear) a in (
        width_to next w (reached_first g (node next.0) (optional_node enable ++ clear_node clear) a) u.0,
        may_width_to enable 1 (reached_left g (optional_node enable) (clear_node clear) rest) u.1,
        may_clear_to clear w (reached_right g (optional_node enable) (clear_node clear) rest) u.2,
        u.3,
      )
  node_to w (Read m addr) a u = (
    u.0,
    width_to addr u.0 (reached_first g (node addr.0) (mem m.0 ∷ []) a) u.1,
    (memory_by to u.2.0, e.memories m.0 (reached_first g (mem m.0) [] (reached_rest g (node addr.0) (mem m.0 ∷ []) a)) ∙ ap (option_map (memory_by to)) u.2.1, u.2.2),
  )
  node_to w (InstOut i port) a u = (instance_by to u.0, u.1, e.instances i.0 (reached_first g (inst i.0) [] a) ∙ ap (option_map (instance_by to)) u.2, u.3, u.4)
  node_to w (Op kind args) a u = (u.0, length-map args (id_by to) ∙ u.1, all_width_to args u.0 a u.2, u.3)

  write_to : (m : Memory) (x : WritePort) → AllReached g (fanin_of_writes (x ∷ [])) → IsLawfulWrite g m x → IsLawfulWrite h (memory_by to m) (write_by to x)
  write_to m x a u = record {
    enable = width_to x.enable 1 (a (node x.enable.0) first) u.enable;
    addr = (u.addr.0, width_to x.addr u.addr.0 (a (node x.addr.0) (later first)) u.addr.1);
    value = width_to x.value m.width (a (node x.value.0) (later (later first))) u.value;
  }

  writes_reached : (ws : List WritePort) (x : WritePort) → AllReached g (fanin_of_writes ws) → Has ws x → AllReached g (fanin_of_writes (x ∷ []))
  writes_reached [] x a k q c = elim k [ ]
  writes_reached (x ∷ ws) _ a first q first = a q first
  writes_reached (x ∷ ws) _ a first q (later first) = a q (later first)
  writes_reached (x ∷ ws) _ a first q (later (later first)) = a q (later (later first))
  writes_reached (x ∷ ws) _ a first q (later (later (later k))) = elim k [ ]
  writes_reached (y ∷ ws) x a (later k) q c = writes_reached ws x (λ p d. a p (later (later (later d)))) k q c

  memory_to : (m : Memory) → AllReached g (fanin_of_writes m.writes) → IsLawfulMemory g m → IsLawfulMemory h (memory_by to m)
  memory_to m a u = record {
    width = u.width;
    size = u.size;
    writes = λ x k. (let f : _ = has_from_map (write_by to) m.writes x k in
        subst (IsLawfulWrite h (memory_by to m)) f.2 (write_to m f.0 (writes_reached m.writes f.0 a f.1) (u.writes f.0 f.1)));
  }

  instance_to : (i : Instance) → AllReached g (nodes_of i.conns) → IsLawfulInstance g i → IsLawfulInstance h (instance_by to i)
  instance_to i a u = record { ports = u.ports; conns = widths_to i.conns _ a u.conns }

  -- numbers of what is reached differ
  nodes_apart : (m n : ℕ) → Reached g (node m) → Reached g (node n) → to.node m ≡ to.node n → m ≡ n
  nodes_apart m n r s q = ap number (partners_equal to back g h e (node m) (node n) r s (ap node q))

  instances_apart : (m n : ℕ) → Reached g (inst m) → Reached g (inst n) → to.inst m ≡ to.inst n → m ≡ n
  instances_apart m n r s q = ap number (partners_equal to back g h e (inst m) (inst n) r s (ap inst q))

-- what a renumbered node was
was_input : (to : Renumbering) (x : Node) (k : ℕ) → node_by to x ≡ Input k → x ≡ Input k
was_input to (Input port) k e = e
was_input to (Wire driver) k e = cc
was_input to (Const value) k e = cc
was_input to (Two op a b) k e = cc
was_input to (Not a) k e = cc
was_input to (Mux sel cases) k e = cc
was_input to (Cat ps) k e = cc
was_input to (Select a hi lo) k e = cc
was_input to (Reg next enable clear init) k e = cc
was_input to (Read m addr) k e = cc
was_input to (InstOut i port) k e = cc
was_input to (Op kind args) k e = cc

abbrev WasOutput : Renumbering → Node → InstId → ℕ → Type 0
WasOutput to x i k = (j : InstId) × (x ≡ InstOut j k) × (to.inst j.0 ≡ i.0)

was_output : (to : Renumbering) (x : Node) (i : InstId) (k : ℕ) → node_by to x ≡ InstOut i k → WasOutput to x i k
was_output to (InstOut j port) i k e = (j, ap (λ n. InstOut j n) (ap (port_or 0) e), ap (inst_or 0) e)
  where
    port_or : ℕ → Node → ℕ
    port_or d (InstOut j port) = port
    port_or d other = d

    inst_or : ℕ → Node → ℕ
    inst_or d (InstOut j port) = j.0
    inst_or d other = d
was_output to (Input port) i k e = cc
was_output to (Wire driver) i k e = cc
was_output to (Const value) i k e = cc
was_output to (Two op a b) i k e = cc
was_output to (Not a) i k e = cc
was_output to (Mux sel cases) i k e = cc
was_output to (Cat ps) i k e = cc
was_output to (Select a hi lo) i k e = cc
was_output to (Reg next enable clear init) i k e = cc
was_output to (Read m addr) i k e = cc
was_output to (Op kind args) i k e = cc

was_wire : (to : Renumbering) (x : Node) → node_by to x ≡ Wire None → x ≡ Wire None
was_wire to (Wire None) e = refl
was_wire to (Wire (Some d)) e = cc
was_wire to (Input port) e = cc
was_wire to (Const value) e = cc
was_wire to (Two op a b) e = cc
was_wire to (Not a) e = cc
was_wire to (Mux sel cases) e = cc
was_wire to (Cat ps) e = cc
was_wire to (Select a hi lo) e = cc
was_wire to (Reg next enable clear init) e = cc
was_wire to (Read m addr) e = cc
was_wire to (InstOut i port) e = cc
was_wire to (Op kind args) e = cc

abbrev input_of : ℕ → Node → ℕ
input_of d (Input port) = port
input_of d other = d

module _ (g : Graph) (l : IsLawful g) (end : List Vertex) (w : NumbersTo g end) (to : Renumbering) (are : AreNumbers g end to) where
  abbrev h : Graph
  h = laid_out g end to

  abbrev from : Renumbering
  from = back g l end w to are

  e : IsIsomorphism to from g h
  e = laid_out_isomorphism g l end w to are

  -- where a row comes from
  abbrev FromPort : ℕ → NodeRow → Type 0
  FromPort m row = (p : Port) × (slice_get g.ports.inputs m ≡ Some p) × (row ≡ input_row p m)

  abbrev FromNode : ℕ → NodeRow → Type 0
  FromNode m row = (n : ℕ) × (old : NodeRow) × Reached g (node n) × (slice_get g.nodes n ≡ Some old) × (row ≡ row_by to old) × (to.node n ≡ m)

  input_origin : (m : ℕ) (row : NodeRow) → slice_get (input_rows 0 g.ports.inputs) m ≡ Some row → FromPort m row
  input_origin m row q = go (slice_get g.ports.inputs m) refl
    where
      go : (o : Option Port) → slice_get g.ports.inputs m ≡ o → FromPort m row
      go None n = (let z : None ≡ Some row = sym (input_rows_at g.ports.inputs 0 m ∙ ap (option_map (λ (p : Port). input_row p (0 + m))) n) ∙ q in cc)
      go (Some p) n = (
        p,
        n,
        (let z : Some (input_row p (0 + m)) ≡ Some row = sym (input_rows_at g.ports.inputs 0 m ∙ ap (option_map (λ (p : Port). input_row p (0 + m))) n) ∙ q in
            sym (ap (λ o. unwrap_or o row) z) ∙ (let y : 0 + m ≡ m = omega arith in ap (input_row p) y)),
      )

  node_origin : (m i : ℕ) (row : NodeRow) → m ≡ length (input_rows 0 g.ports.inputs) + i → IsPicked (row_by to) g.nodes (nodes_met g end) i row → FromNode m row
  node_origin m i row q p = (
    p.0,
    p.1,
    walk_sound g w (node p.0) (met_from_nodes g end p.0 (has_slice (nodes_met g end) i p.0 p.2)),
    p.3,
    p.4,
    are.nodes i p.0 p.2 ∙ ap (λ n. n + i) (sym (input_rows_length g.ports.inputs 0)) ∙ sym q,
  )

  origin : (m : ℕ) (row : NodeRow) → slice_get h.nodes m ≡ Some row → FromPort m row ⊎ FromNode m row
  origin m row q =
      elim (slice_cases (input_rows 0 g.ports.inputs) (picked (row_by to) g.nodes (nodes_met g end)) m row q) [
        | inl a ↦ inl (input_origin m row a)
        | inr b ↦ inr (node_origin m b.0 row b.1 (picked_from (row_by to) g.nodes (nodes_met g end) (all_nodes g l end w to are) b.0 row b.2))
      ]

  row_fanin : (n : ℕ) (row : NodeRow) → Reached g (node n) → slice_get g.nodes n ≡ Some row → AllReached g (fanin_of_node row.node)
  row_fanin n row r q p c = further (node n) p r (subst (λ o. Has (fanin_of_row o) p) (sym q) c)

  abbrev IsRow : NodeRow → Type 0
  IsRow row = IsWidth row.width × IsLawfulNode h row.width row.node

  row_lawful : (m : ℕ) (row : NodeRow) → slice_get h.nodes m ≡ Some row → IsRow row
  row_lawful m row q =
      elim (origin m row q) [
        | inl a ↦ subst IsRow (sym a.2) (l.ports.inputs a.0 (has_slice g.ports.inputs m a.0 a.1), (a.0, a.1, refl))
        | inr b ↦ subst IsRow (sym b.4) ((l.nodes b.0 b.1 b.3).0, node_to to from g h e b.1.width b.1.node (row_fanin b.0 b.1 b.2 b.3) (l.nodes b.0 b.1 b.3).1)
      ]

  memory_lawful : (m : Memory) → Has h.memories m → IsLawfulMemory h m
  memory_lawful m k =
      let i : _ = has_index k in
      let p : IsPicked (memory_by to) g.memories (memories_met end) i.0 m = picked_from (memory_by to) g.memories (memories_met end) (all_memories g l end w to are) i.0 m i.1 in
      let r : Reached g (mem p.0) = walk_sound g w (mem p.0) (met_from_memories end p.0 (has_slice (memories_met end) i.0 p.0 p.2)) in
      subst (IsLawfulMemory h) (sym p.4) (memory_to to from g h e p.1 (λ q c. further (mem p.0) q r (subst (λ o. Has (fanin_of_memory o) q) (sym p.3) c))
      (l.memories p.1 (has_slice g.memories p.0 p.1 p.3)))

  instance_lawful : (it : Instance) → Has h.instances it → IsLawfulInstance h it
  instance_lawful it k =
      let i : _ = has_index k in
      let p : IsPicked (instance_by to) g.instances (instances_met end) i.0 it = picked_from (instance_by to) g.instances (instances_met end) (all_instances g l end w to are) i.0 it i.1 in
      let r : Reached g (inst p.0) = walk_sound g w (inst p.0) (met_from_instances end p.0 (has_slice (instances_met end) i.0 p.0 p.2)) in
      subst (IsLawfulInstance h) (sym p.4) (instance_to to from g h e p.1 (λ q c. further (inst p.0) q r (subst (λ o. Has (fanin_of_instance o) q) (sym p.3) c))
      (l.instances p.1 (has_slice g.instances p.0 p.1 p.3)))

  output_reached : (id : NodeId) → Has g.outputs id → Reached g (node id.0)
  output_reached id k = output (node id.0) (has_map node_of k)

  -- an output was one
  abbrev WasOut : ℕ → NodeId → Type 0
  WasOut i id = (old : NodeId) × (slice_get g.outputs i ≡ Some old) × (to.node old.0 ≡ id.0)

  was_out : (i : ℕ) (id : NodeId) → slice_get h.outputs i ≡ Some id → WasOut i id
  was_out i id q = go (slice_get g.outputs i) refl
    where
      go : (o : Option NodeId) → slice_get g.outputs i ≡ o → WasOut i id
      go None n = (let z : None ≡ Some id = sym (slice_get-map (id_by to) g.outputs i ∙ ap (option_map (id_by to)) n) ∙ q in cc)
      go (Some old) n = (old, n, (let z : Some (id_by to old) ≡ Some id = sym (slice_get-map (id_by to) g.outputs i ∙ ap (option_map (id_by to)) n) ∙ q in ap (λ o. (unwrap_or o id).0) z))

  own : (i j : ℕ) (id : NodeId) → slice_get h.outputs i ≡ Some id → slice_get h.outputs j ≡ Some id → i ≡ j
  own i j id p q =
      let a : WasOut i id = was_out i id p in
      let b : WasOut j id = was_out j id q in
      let same : a.0.0 ≡ b.0.0 = nodes_apart to from g h e a.0.0 b.0.0 (output_reached a.0 (has_slice g.outputs i a.0 a.1)) (output_reached b.0 (has_slice g.outputs j b.0 b.1)) (a.2 ∙ sym b.2) in
      l.own_wire i j b.0 (a.1 ∙ ap (λ n. Some (record { 0 = n })) same) b.1

  abbrev IsOutWire : NodeId → Type 0
  IsOutWire id = (row : NodeRow) × (driver : Option NodeId) × (slice_get h.nodes id.0 ≡ Some row) × (row.node ≡ Wire driver) × (row.label ≡ None)

  wire_out : (id : NodeId) → Has h.outputs id → IsOutWire id
  wire_out id k =
      let m : _ = has_from_map (id_by to) g.outputs id k in
      let x : (row : NodeRow) × (driver : Option NodeId) × (slice_get g.nodes m.0.0 ≡ Some row) × (row.node ≡ Wire driver) × (row.label ≡ None) = l.wires m.0 m.1 in
      subst IsOutWire m.2 (row_by to x.0, option_map (id_by to) x.1, e.nodes m.0.0 (output_reached m.0 m.1) ∙ ap (option_map (row_by to)) x.2, ap (node_by to) x.3, x.4)

  input_place : (m k : ℕ) → NodeAt h m (Input k) → m ≡ k
  input_place m k a =
      elim (origin m a.0 a.1) [
        | inl b ↦ ap (input_of 0) (sym (ap (λ (r : NodeRow). r.node) b.2) ∙ a.2)
        | inr b ↦ sym b.5 ∙ are.inputs b.0 k (b.1, b.3, was_input to b.1.node k (sym (ap (λ (r : NodeRow). r.node) b.4) ∙ a.2))
      ]

  input_there : (k : ℕ) → k < length g.ports.inputs → (n : ℕ) × NodeAt h n (Input k)
  input_there k b =
      let x : (n : ℕ) × NodeAt g n (Input k) = l.inputs k b in
      let p : (p : Port) × (slice_get g.ports.inputs k ≡ Some p) × (p.width ≡ x.1.0.width) = subst (λ y. IsLawfulNode g x.1.0.width y) x.1.2 (l.nodes x.0 x.1.0 x.1.1).1 in
      (k, (input_row p.0 k, input_at g l end w to are k p.0 p.1, refl))

  no_label : (n k : ℕ) (row : NodeRow) → slice_get h.nodes n ≡ Some row → row.node ≡ Input k → row.label ≡ None
  no_label n k row q u =
      elim (origin n row q) [
        | inl b ↦ ap (λ (r : NodeRow). r.label) b.2
        | inr b ↦ ap (λ (r : NodeRow). r.label) b.4 ∙ l.no_label b.0 k b.1 b.3 (was_input to b.1.node k (sym (ap (λ (r : NodeRow). r.node) b.4) ∙ u))
      ]

  abbrev OutAt : ℕ → InstId → ℕ → Type 0
  OutAt m i k = (n : ℕ) × (j : InstId) × Reached g (node n) × NodeAt g n (InstOut j k) × (to.node n ≡ m) × (to.inst j.0 ≡ i.0)

  out_at : (m : ℕ) (i : InstId) (k : ℕ) → NodeAt h m (InstOut i k) → OutAt m i k
  out_at m i k a =
      elim (origin m a.0 a.1) [
        | inl b ↦ (let z : Input m ≡ InstOut i k = sym (ap (λ (r : NodeRow). r.node) b.2) ∙ a.2 in absurd (never z))
        | inr b ↦ (let z : WasOutput to b.1.node i k = was_output to b.1.node i k (sym (ap (λ (r : NodeRow). r.node) b.4) ∙ a.2) in
            (b.0, z.0, b.2, (b.1, b.3, z.1), b.5, z.2))
      ]
    where
      never : Input m ≡ InstOut i k → ⊥
      never z = cc

  out_reached : (n : ℕ) (j : InstId) (k : ℕ) → Reached g (node n) → NodeAt g n (InstOut j k) → Reached g (inst j.0)
  out_reached n j k r a = further (node n) (inst j.0) r (subst (λ o. Has (fanin_of_row o) (inst j.0)) (sym a.1) (subst (λ x. Has (fanin_of_node x) (inst j.0)) (sym a.2) first))

  one_out : (m n k : ℕ) (i : InstId) → NodeAt h m (InstOut i k) → NodeAt h n (InstOut i k) → m ≡ n
  one_out m n k i a b =
      let x : OutAt m i k = out_at m i k a in
      let y : OutAt n i k = out_at n i k b in
      let same : x.1.0 ≡ y.1.0 = instances_apart to from g h e x.1.0 y.1.0 (out_reached x.0 x.1 k x.2 x.3) (out_reached y.0 y.1 k y.2 y.3) (x.5 ∙ sym y.5) in
      let one : x.0 ≡ y.0 = l.one_output x.0 y.0 k y.1 (x.3.0, x.3.1, x.3.2 ∙ ap (λ q. InstOut (record { 0 = q }) k) same) y.3 in
      sym x.4 ∙ ap to.node one ∙ y.4

  pub laid_out_lawful : IsLawful (laid_out g end to)
  laid_out_lawful = record {
    ports = l.ports;
    nodes = row_lawful;
    memories = memory_lawful;
    instances = instance_lawful;
    outputs = widths_to to from g h e g.outputs _ (λ p c. output p c) l.outputs;
    wires = wire_out;
    own_wire = own;
    inputs = input_there;
    one_input = λ m n k a b. input_place m k a ∙ sym (input_place n k b);
    no_label = no_label;
    one_output = one_out;
    few = (
      (let a : length h.nodes ≡ length g.ports.inputs + length (nodes_met g end) = nodes_length g l end w to are in
          let b : length g.ports.inputs + length (nodes_met g end) ≤ length g.nodes = nodes_fit g l end w in
          let c : length g.nodes ≤ 4294967296 = l.few.0 in omega (arith, a, b, c)),
      (let a : length h.memories ≡ length (memories_met end) = picked_length (memory_by to) g.memories (memories_met end) (all_memories g l end w to are) in
          let b : length (memories_met end) ≤ length g.memories = memories_fit g l end w in
          let c : length g.memories ≤ 4294967296 = l.few.1 in omega (arith, a, b, c)),
      (let a : length h.instances ≡ length (instances_met end) = picked_length (instance_by to) g.instances (instances_met end) (all_instances g l end w to are) in
          let b : length (instances_met end) ≤ length g.instances = instances_fit g l end w in
          let c : length g.instances ≤ 4294967296 = l.few.2 in omega (arith, a, b, c)),
    );
  }

  undriven : IsChecked g → (n : ℕ) → Reached h (node n) → NodeAt h n (Wire None) → ⊥
  undriven c n r a =
      let f : HasPartner to g (node n) = reached_from to from g h e r in
      go f.0 f.1 f.2
    where
      go : (p : Vertex) → Reached g p → renumber to p ≡ node n → ⊥
      go (node m) s q =
          let there : slice_get h.nodes n ≡ option_map (row_by to) (slice_get g.nodes m) = ap (slice_get h.nodes) (sym (ap number q)) ∙ e.nodes m s in
          row (slice_get g.nodes m) refl there
        where
          row : (o : Option NodeRow) → slice_get g.nodes m ≡ o → slice_get h.nodes n ≡ option_map (row_by to) o → ⊥
          row None u t = (let z : None ≡ Some a.0 = sym t ∙ a.1 in cc)
          row (Some old) u t =
              let z : Some (row_by to old) ≡ Some a.0 = sym t ∙ a.1 in
              let y : row_by to old ≡ a.0 = ap (λ o. unwrap_or o a.0) z in
              c.driven m s (old, u, was_wire to old.node (ap (λ (r : NodeRow). r.node) y ∙ a.2))
      go (mem m) s q = cc
      go (inst m) s q = cc

  pub laid_out_checked : IsChecked g → IsChecked (laid_out g end to)
  laid_out_checked c = record { outputs = c.outputs; few_inputs = c.few_inputs; few_outputs = c.few_outputs; driven = undriven c }
