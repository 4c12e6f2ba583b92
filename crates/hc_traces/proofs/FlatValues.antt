-- The flat graph of a tree settles as the tree does.
use Rattle.std.proofs.Common.{◌≡◌, ℕ, zero, suc, ◌⊎◌, false, List, [], ◌∷◌, map, length, refl, sym, subst, ◌∙◌, ap, ap₂, inl, inr, true≢false}
use Rattle.std.specs.Prelude.{slice_get, slice_index, unwrap_or, Option, Some, None, option_map}
use Rattle.hc_signal.specs.Member.{Has, first, later}
use Rattle.hc_walk.proofs.Members.{has_map, has_slice}
use Rattle.hc_signal.specs.declared.signal.NodeId.{NodeId}
use Rattle.hc_signal.specs.declared.signal.Port.{Port}
use Rattle.hc_signal.specs.declared.signal.NodeRow.{NodeRow}
use Rattle.hc_signal.specs.declared.signal.Instance.{Instance}
use Rattle.hc_signal.specs.declared.signal.Node.{Node}
use Rattle.hc_signal.specs.declared.signal.Node.TheVariants.{Input, Wire, Const, Two, Not, Mux, Cat, Select, Reg, Read, InstOut, Op}
use Rattle.hc_bits.specs.BitVector.{BitVector, not_, select, cat_all, mux}
use Rattle.hc_signal.specs.Operators.{binary}
use Rattle.hc_bits.specs.Catalogue.{operation}
use Rattle.hc_signal.specs.Graph.{Graph, Vertex, node, mem, inst, Reached, further, fanin, fanin_of_row, fanin_of_node, fanin_of_memory, nodes_of, node_of}
use Rattle.hc_signal.specs.Graph as graphs
use Rattle.hc_signal.specs.Lawful.{IsLawfulNode, HasWidth, HaveWidths}
use Rattle.hc_signal.specs.Tree.{Tree, none, tree, graph, kid, IsWhole, leaf}
use Rattle.hc_signal.specs.Renumber.{Renumbering, renumber, id_by, node_by, row_by}
use Rattle.hc_signal.specs.Occurrences.{Occurrence, tree_at, graph_at, row_at, NodeIs, IsReachedPath, IsFlatNode, is_port_alias, below_top, comb_fanin, connection, connection_of, CombStep, inside, HasCombLoop}
use Rattle.hc_signal.specs.Occurrences as occurrences
use Rattle.hc_signal.specs.FlatGraph.{FlatReached, output, to_node, to_mem, down, up, within, IsFlat}
use Rattle.hc_bench.specs.Simulation.{State, value, value_at, optional_value, vector_at, width_of, look_up, IsSettled}
use Rattle.hc_canon.proofs.Isomorphisms.{nodes_of_by, row_parts_by, memory_parts_by}
use Rattle.hc_paths.proofs.Composed.{step_reached, comb_fanin_fanin}
use Rattle.hc_walk.proofs.InRange.{HasRow}
use Rattle.hc_traces.proofs.Settling.{IsAt, row_in, whole_at, Deep, deep_none, deep_next, deep_start}
use Rattle.hc_traces.proofs.Settling as settling

-- What is reached in the flat circuit is reached in the tree.
pub flat_at : (t : Tree) {p : List ℕ} {x : Vertex} → FlatReached t p x → IsReachedPath t p × Reached (graph_at t p) x
flat_at t (output c) = (tt, graphs.output _ c)
flat_at t (to_node {p = q} {n = n} r c) = ((flat_at t r).0, further q (node n) (flat_at t r).1 c)
flat_at t (to_mem {p = q} {m = m} r c) = ((flat_at t r).0, further q (mem m) (flat_at t r).1 c)
flat_at t (down port r y o) = step_reached t (occurrences.down port y o) (flat_at t r)
flat_at t (up port r y o) = step_reached t (occurrences.up port y o) (flat_at t r)

-- An instance output has an inner wire of its width, and an inner input a connection.
width_at_place : (g : Graph) (ids : List NodeId) (ports : List Port) (k : ℕ) (p : Port) → HaveWidths g ids (map (λ (p : Port). p.width) ports)
    → slice_get ports k ≡ Some p → (id : NodeId) × (slice_get ids k ≡ Some id) × HasWidth g id p.width
width_at_place g ids [] k p h e = cc
width_at_place g [] (q ∷ ports) k p h e = absurd h
width_at_place g (id ∷ ids) (q ∷ ports) zero p h e = (id, refl, subst (λ z. HasWidth g id z.width) (ap (λ o. unwrap_or o q) e) h.0)
width_at_place g (id ∷ ids) (q ∷ ports) (suc k) p h e = width_at_place g ids ports k p h.1 e

abbrev Wired : Graph → Option NodeId → ℕ → Type 0
Wired g o w = (id : NodeId) × (o ≡ Some id) × HasWidth g id w

wire_below : (s : Tree) → IsWhole s → (n i port : ℕ) (row : NodeRow) → slice_get (graph s).nodes n ≡ Some row → row.node ≡ InstOut (record { 0 = i }) port
    → Wired (graph (kid s i)) (slice_get (graph (kid s i)).outputs port) row.width
wire_below none w n i port row e q = cc
wire_below (tree g kids) w n i port row e q =
    let l : (it : Instance) × (p : Port) × (slice_get g.instances i ≡ Some it) × (slice_get it.ports.outputs port ≡ Some p)
    × (p.width ≡ row.width) = subst (IsLawfulNode g row.width) q (w.0.nodes n row e).1 in
    let k : ((graph (kids i)).ports ≡ l.0.ports) × IsWhole (kids i) = w.1 i l.0 l.2 in
    let o : slice_get (graph (kids i)).ports.outputs port ≡ Some l.1 = ap (λ z. slice_get z.outputs port) k.0 ∙ l.3 in
    lawful_wire (kids i) k.1 port l.1 row.width o l.4
  where
    lawful_wire : (s : Tree) → IsWhole s → (port : ℕ) (p : Port) (x : ℕ) → slice_get (graph s).ports.outputs port ≡ Some p → p.width ≡ x → Wired (graph s) (slice_get (graph s).outputs port) x
    lawful_wire none w port p x o f = cc
    lawful_wire (tree h others) w port p x o f = subst (λ z. Wired h (slice_get h.outputs port) z) f (width_at_place h h.outputs h.ports.outputs port p w.0.outputs o)

wire_above : (s : Tree) → IsWhole s → (i : ℕ) → Reached (graph s) (inst i) → (n port : ℕ) (row : NodeRow) → slice_get (graph (kid s i)).nodes n ≡ Some row
    → row.node ≡ Input port → Wired (graph s) (connection (graph s) i port) row.width
wire_above none w i r n port row e q = cc
wire_above (tree g kids) w i r n port row e q =
    let x : HasRow g (inst i) = row_in (tree g kids) w r in
    let k : ((graph (kids i)).ports ≡ x.0.ports) × IsWhole (kids i) = w.1 i x.0 x.1 in
    let l : (p : Port) × (slice_get (graph (kids i)).ports.inputs port ≡ Some p) × (p.width ≡ row.width) = lawful_input (kids i) k.1 n port row e q in
    let c : Wired g (slice_get x.0.conns port) l.0.width = width_at_place g x.0.conns x.0.ports.inputs port l.0 (w.0.instances x.0 (has_slice g.instances i x.0 x.1)).conns
    (ap (λ z. slice_get z.inputs port) (sym k.0) ∙ l.1) in
    subst (λ z. Wired g (connection g i port) z) l.2 (c.0, ap (λ o. connection_of o port) x.1 ∙ c.1, c.2)
  where
    lawful_input : (s : Tree) → IsWhole s → (n port : ℕ) (row : NodeRow) → slice_get (graph s).nodes n ≡ Some row → row.node ≡ Input port
        → (p : Port) × (slice_get (graph s).ports.inputs port ≡ Some p) × (p.width ≡ row.width)
    lawful_input none w n port row e q = cc
    lawful_input (tree h others) w n port row e q = subst (IsLawfulNode h row.width) q (w.0.nodes n row e).1

-- Images of what is reached are reached.
flat_part : (x : Node) (p : List ℕ) (n : ℕ) → Has (fanin_of_node x) (node n) → is_port_alias p x ≡ false
flat_part (Input port) p n h = elim h [ ]
flat_part (Wire driver) p n h = refl
flat_part (Const value) p n h = refl
flat_part (Two op a b) p n h = refl
flat_part (Not a) p n h = refl
flat_part (Mux sel cases) p n h = refl
flat_part (Cat fanin) p n h = refl
flat_part (Select a hi lo) p n h = refl
flat_part (Reg next enable clear init) p n h = refl
flat_part (Read m addr) p n h = refl
flat_part (InstOut i port) p n (later h) = elim h [ ]
flat_part (Op kind args) p n h = refl

not_inst : (ids : List NodeId) (k : ℕ) → Has (nodes_of ids) (inst k) → ⊥
not_inst [] k h = elim h [ ]
not_inst (id ∷ ids) k (later h) = not_inst ids k h

no_inst : (t : Tree) (p : List ℕ) (k : ℕ) (x : Vertex) → FlatReached t p x → x ≡ inst k → ⊥
no_inst t _ k x (output c) e = not_inst (graph t).outputs k (subst (Has (nodes_of (graph t).outputs)) e c)
no_inst t p k _ (to_node r c) e = cc
no_inst t p k _ (to_mem r c) e = cc
no_inst t _ k _ (down port r y o) e = cc
no_inst t _ k _ (up port r y o) e = cc

module _ (t : Tree) (g : Graph) (fl : IsFlat t g) where
  abbrev image : List ℕ → Vertex → Vertex
  image p x = renumber (within fl.at p) x

  flat_here : (p : List ℕ) (k n : ℕ) → FlatReached t p (node k) → (o : Option NodeRow) → slice_get (graph_at t p).nodes k ≡ o
      → Has (fanin_of_row o) (node n) ⊎ ((m : ℕ) × Has (fanin_of_row o) (mem m)) → IsFlatNode t (record { path = p; node = k })
  flat_here p k n r None e (inl h) = elim h [ ]
  flat_here p k n r None e (inr h) = absurd (none_has h.0 h.1)
    where
      none_has : (m : ℕ) → Has [] (mem m) → ⊥
      none_has m h = elim h [ ]
  flat_here p k n r (Some row) e (inl h) = (flat_at t r, (row, e, flat_part row.node p n h))
  flat_here p k n r (Some row) e (inr h) = (flat_at t r, (row, e, flat_mem row.node p h.0 h.1))
    where
      flat_mem : (x : Node) (p : List ℕ) (m : ℕ) → Has (fanin_of_node x) (mem m) → is_port_alias p x ≡ false
      flat_mem (Input port) p m h = elim h [ ]
      flat_mem (Wire driver) p m h = refl
      flat_mem (Const value) p m h = refl
      flat_mem (Two op a b) p m h = refl
      flat_mem (Not a) p m h = refl
      flat_mem (Mux sel cases) p m h = refl
      flat_mem (Cat fanin) p m h = refl
      flat_mem (Select a hi lo) p m h = refl
      flat_mem (Reg next enable clear init) p m h = refl
      flat_mem (Read k addr) p m h = refl
      flat_mem (InstOut i port) p m (later h) = elim h [ ]
      flat_mem (Op kind args) p m h = refl

  -- the fan-in of an image
  parts_imaged : (p : List ℕ) (x : Vertex) → FlatReached t p x → ((n : ℕ) × Has (fanin (graph_at t p) x) (node n)) ⊎ ((m : ℕ) × Has (fanin (graph_at t p) x) (mem m))
      → fanin g (image p x) ≡ map (image p) (fanin (graph_at t p) x)
  parts_imaged p (node k) r (inl h) = ap fanin_of_row (fl.nodes (record { path = p; node = k }) r (flat_here p k h.0 r (slice_get (graph_at t p).nodes k) refl (inl h.1)))
      ∙ row_parts_by (within fl.at p) (slice_get (graph_at t p).nodes k)
  parts_imaged p (node k) r (inr h) = ap fanin_of_row (fl.nodes (record { path = p; node = k }) r (flat_here p k 0 r (slice_get (graph_at t p).nodes k) refl (inr h)))
      ∙ row_parts_by (within fl.at p) (slice_get (graph_at t p).nodes k)
  parts_imaged p (mem k) r h = ap fanin_of_memory (fl.memories p k r) ∙ memory_parts_by (within fl.at p) (slice_get (graph_at t p).memories k)
  parts_imaged p (inst k) r h = absurd (no_inst t p k (inst k) r refl)

  pub flat_goes : {p : List ℕ} {x : Vertex} → FlatReached t p x → Reached g (image p x)
  flat_goes (output {p = x} c) = graphs.output (image [] x) (subst (λ l. Has l (image [] x)) (sym (ap nodes_of fl.outputs ∙ nodes_of_by (within fl.at []) (graph t).outputs)) (has_map (image []) c))
  flat_goes (to_node {path = p} {p = x} {n = n} r c) = further (image p x) (node (fl.at.node p n)) (flat_goes r)
      (subst (λ l. Has l (node (fl.at.node p n))) (sym (parts_imaged p x r (inl (n, c)))) (has_map (image p) c))
  flat_goes (to_mem {path = p} {p = x} {m = m} r c) = further (image p x) (mem (fl.at.mem p m)) (flat_goes r)
      (subst (λ l. Has l (mem (fl.at.mem p m))) (sym (parts_imaged p x r (inr (m, c)))) (has_map (image p) c))
  flat_goes (down {path = p} {n = n} {i = i} {m = m} port r y o) = subst (λ k. Reached g (node k)) (fl.down p n i port m r y o) (flat_goes r)
  flat_goes (up {path = p} {n = n} {i = i} {m = m} port r y o) = subst (λ k. Reached g (node k)) (fl.up p n i port m r y o) (flat_goes r)

  -- an occurrence that passes another one on
  record Passing (p : List ℕ) (n : ℕ) (row : NodeRow) : Type 0 where
    to : List ℕ
    num : ℕ
    needs : CombStep t p n to num
    reached : FlatReached t to (node num)
    same : fl.at.node p n ≡ fl.at.node to num
    there : NodeRow
    found : slice_get (graph_at t to).nodes num ≡ Some there
    width : there.width ≡ row.width
    passes : (st : State) (ins : List ℕ) (u : Occurrence → ℕ) → value t st ins u p n row.node ≡ u (record { path = to; node = num })

  view_output : IsWhole t → (p : List ℕ) (n i port : ℕ) (row : NodeRow) → FlatReached t p (node n) → slice_get (graph_at t p).nodes n ≡ Some row
      → row.node ≡ InstOut (record { 0 = i }) port → Passing p n row
  view_output w p n i port row r e q =
      let b : Wired (graph_at t (i ∷ p)) (slice_get (graph_at t (i ∷ p)).outputs port) row.width = wire_below (tree_at t p) (whole_at t w p (flat_at t r).0) n i port row e q in
      record {
        to = i ∷ p;
        num = b.0.0;
        needs = occurrences.down port (row, e, q) b.1;
        reached = down port r (row, e, q) b.1;
        same = fl.down p n i port b.0.0 r (row, e, q) b.1;
        there = b.2.0;
        found = b.2.1;
        width = b.2.2;
        passes = λ st ins u. ap (value t st ins u p n) q ∙ ap (optional_value u (i ∷ p)) b.1;
      }

  view_input : IsWhole t → (i : ℕ) (p : List ℕ) (n port : ℕ) (row : NodeRow) → FlatReached t (i ∷ p) (node n) → slice_get (graph_at t (i ∷ p)).nodes n ≡ Some row
      → row.node ≡ Input port → Passing (i ∷ p) n row
  view_input w i p n port row r e q =
      let b : Wired (graph_at t p) (connection (graph_at t p) i port) row.width = wire_above (tree_at t p) (whole_at t w p (flat_at t r).0.0) i (flat_at t r).0.1 n port row e q in
      record {
        to = p;
        num = b.0.0;
        needs = occurrences.up port (row, e, q) b.1;
        reached = up port r (row, e, q) b.1;
        same = fl.up p n i port b.0.0 r (row, e, q) b.1;
        there = b.2.0;
        found = b.2.1;
        width = b.2.2;
        passes = λ st ins u. ap (value t st ins u (i ∷ p) n) q ∙ ap (optional_value u p) b.1;
      }

  view : IsWhole t → (p : List ℕ) (n : ℕ) (row : NodeRow) (x : Node) → FlatReached t p (node n) → slice_get (graph_at t p).nodes n ≡ Some row → row.node ≡ x
      → Passing p n row ⊎ (is_port_alias p x ≡ false)
  view w p n row (InstOut i port) r e q = inl (view_output w p n i.0 port row r e q)
  view w [] n row (Input port) r e q = inr refl
  view w (i ∷ p) n row (Input port) r e q = inl (view_input w i p n port row r e q)
  view w p n row (Wire driver) r e q = inr refl
  view w p n row (Const value) r e q = inr refl
  view w p n row (Two op a b) r e q = inr refl
  view w p n row (Not a) r e q = inr refl
  view w p n row (Mux sel cases) r e q = inr refl
  view w p n row (Cat fanin) r e q = inr refl
  view w p n row (Select a hi lo) r e q = inr refl
  view w p n row (Reg next enable clear init) r e q = inr refl
  view w p n row (Read m addr) r e q = inr refl
  view w p n row (Op kind args) r e q = inr refl

  pub flat_row : (p : List ℕ) (n : ℕ) (row : NodeRow) → FlatReached t p (node n) → slice_get (graph_at t p).nodes n ≡ Some row → is_port_alias p row.node ≡ false
      → slice_get g.nodes (fl.at.node p n) ≡ Some (row_by (within fl.at p) row)
  flat_row p n row r e f = fl.nodes (record { path = p; node = n }) r (flat_at t r, (row, e, f)) ∙ ap (option_map (row_by (within fl.at p))) e

  module _ (whole : IsWhole t) (free : ¬ HasCombLoop t) where
    width_flat : (f : ℕ) (p : List ℕ) (n : ℕ) → Deep t whole free f p n → FlatReached t p (node n) → width_of (slice_get (graph_at t p).nodes n) ≡ width_of (slice_get g.nodes (fl.at.node p n))
    width_flat zero p n d r = absurd (deep_none t whole free p n d)
    width_flat (suc f) p n d r =
        let x : HasRow (graph_at t p) (node n) = row_in (tree_at t p) (whole_at t whole p d.2.0) d.2.1 in
        elim (view whole p n x.0 x.0.node r x.1 refl) [
          | inl v ↦ ap width_of x.1 ∙ sym v.width ∙ sym (ap width_of v.found) ∙ width_flat f v.to v.num (deep_next t whole free f p n v.to v.num d v.needs) v.reached
              ∙ ap (λ k. width_of (slice_get g.nodes k)) (sym v.same)
          | inr b ↦ ap width_of x.1 ∙ sym (ap width_of (flat_row p n x.0 r x.1 b))
        ]

-- States that give the registers and memories that are reached the same numbers and words.
pub record FlatAgree (t : Tree) (g : Graph) (fl : IsFlat t g) (st su : State) : Type 0 where
  pub registers : (p : List ℕ) (n : ℕ) (next : NodeId) (enable : Option NodeId) (clear : Option (NodeId × BitVector)) (init : BitVector) → FlatReached t p (node n)
      → NodeIs t p n (Reg next enable clear init)
      → look_up 0 st.registers (record { path = p; node = n }) ≡ look_up 0 su.registers (record { path = []; node = fl.at.node p n })
  pub memories : (p : List ℕ) (m : ℕ) → FlatReached t p (mem m) → look_up [] st.memories (record { path = p; node = m }) ≡ look_up [] su.memories (record { path = []; node = fl.at.mem p m })

module _ (t : Tree) (g : Graph) (fl : IsFlat t g) (whole : IsWhole t) (free : ¬ HasCombLoop t) (st su : State) (same : FlatAgree t g fl st su) (ins : List ℕ) (v w : Occurrence → ℕ) where
  module _ (p : List ℕ) (n : ℕ) (x : Node) (row : NodeRow) (e : slice_get (graph_at t p).nodes n ≡ Some row) (q : row.node ≡ x) (r : FlatReached t p (node n))
      (ih : (k : ℕ) → CombStep t p n p k → FlatReached t p (node k) → v (record { path = p; node = k }) ≡ w (record { path = []; node = fl.at.node p k })) where
    abbrev W : Renumbering
    W = within fl.at p

    operand_reached : (id : NodeId) → Has (comb_fanin x) id → FlatReached t p (node id.0)
    operand_reached id h = to_node r (subst (λ l. Has l (node id.0)) (sym (ap fanin_of_row e ∙ ap fanin_of_node q)) (comb_fanin_fanin x id h))

    number : (id : NodeId) → Has (comb_fanin x) id → value_at v p id ≡ value_at w [] (id_by W id)
    number id h = ih id.0 (inside x (row, e, q) h) (operand_reached id h)

    vector : (id : NodeId) → Has (comb_fanin x) id → vector_at t v p id ≡ vector_at (leaf g) w [] (id_by W id)
    vector id h =
        ap₂ (λ b c. record { width = b; value = c })
        (width_flat t g fl whole free (length (settling.occurrences t)) p id.0 (deep_start t whole free p id.0 (flat_at t (operand_reached id h))) (operand_reached id h))
        (number id h)

    vectors : (ids : List NodeId) → ((id : NodeId) → Has ids id → Has (comb_fanin x) id) → map (vector_at t v p) ids ≡ map (vector_at (leaf g) w []) (map (id_by W) ids)
    vectors [] h = refl
    vectors (id ∷ ids) h = ap₂ (λ b c. b ∷ c) (vector id (h id first)) (vectors ids (λ i k. h i (later k)))

  abbrev Below : List ℕ → ℕ → Type 0
  Below p n = (k : ℕ) → CombStep t p n p k → FlatReached t p (node k) → v (record { path = p; node = k }) ≡ w (record { path = []; node = fl.at.node p k })

  flat_node_value : (p : List ℕ) (n : ℕ) (x : Node) (row : NodeRow) → slice_get (graph_at t p).nodes n ≡ Some row → row.node ≡ x → FlatReached t p (node n) → is_port_alias p x ≡ false → Below p n
      → value t st ins v p n x ≡ value (leaf g) su ins w [] (fl.at.node p n) (node_by (within fl.at p) x)
  flat_node_value [] n (Input port) row e q r f ih = refl
  flat_node_value (i ∷ p) n (Input port) row e q r f ih = absurd (true≢false f)
  flat_node_value p n (Wire None) row e q r f ih = refl
  flat_node_value p n (Wire (Some d)) row e q r f ih = number p n (Wire (Some d)) row e q r ih d first
  flat_node_value p n (Const c) row e q r f ih = refl
  flat_node_value p n (Two op b c) row e q r f ih = ap₂ (λ i j. (binary op i j).value) (vector p n (Two op b c) row e q r ih b first) (vector p n (Two op b c) row e q r ih c (later first))
  flat_node_value p n (Not b) row e q r f ih = ap (λ i. (not_ i).value) (vector p n (Not b) row e q r ih b first)
  flat_node_value p n (Mux sel cases) row e q r f ih = ap₂ (λ i j. (mux i j).value) (vector p n (Mux sel cases) row e q r ih sel first)
      (vectors p n (Mux sel cases) row e q r ih cases (λ i h. later h))
  flat_node_value p n (Cat fanin) row e q r f ih = ap (λ i. (cat_all i).value) (vectors p n (Cat fanin) row e q r ih fanin (λ i h. h))
  flat_node_value p n (Select b hi lo) row e q r f ih = ap (λ i. (select i hi lo).value) (vector p n (Select b hi lo) row e q r ih b first)
  flat_node_value p n (Reg next enable clear init) row e q r f ih = same.registers p n next enable clear init r (row, e, q)
  flat_node_value p n (Read m addr) row e q r f ih =
      ap₂ (λ l b. slice_index l b)
      (same.memories p m.0 (to_mem r (subst (λ l. Has l (mem m.0)) (sym (ap fanin_of_row e ∙ ap fanin_of_node q)) (later first))))
      (number p n (Read m addr) row e q r ih addr first)
  flat_node_value p n (InstOut i port) row e q r f ih = absurd (true≢false f)
  flat_node_value p n (Op kind args) row e q r f ih = ap (λ i. (operation kind i).value) (vectors p n (Op kind args) row e q r ih args (λ i h. h))

  module _ (a : IsSettled t st ins v) (b : IsSettled (leaf g) su ins w) where
    flat_deep : (f : ℕ) (p : List ℕ) (n : ℕ) → Deep t whole free f p n → FlatReached t p (node n) → v (record { path = p; node = n }) ≡ w (record { path = []; node = fl.at.node p n })
    flat_deep zero p n d r = absurd (deep_none t whole free p n d)
    flat_deep (suc f) p n d r =
        let x : HasRow (graph_at t p) (node n) = row_in (tree_at t p) (whole_at t whole p d.2.0) d.2.1 in
        a (record { path = p; node = n }) x.0 d.2 x.1
        ∙ elim (view t g fl whole p n x.0 x.0.node r x.1 refl) [
          | inl y ↦ y.passes st ins v ∙ flat_deep f y.to y.num (deep_next t whole free f p n y.to y.num d y.needs) y.reached ∙ ap (λ k. w (record { path = []; node = k })) (sym y.same)
          | inr c ↦ flat_node_value p n x.0.node x.0 x.1 refl r c (λ k s u. flat_deep f p k (deep_next t whole free f p n p k d s) u)
              ∙ sym (b (record { path = []; node = fl.at.node p n }) (row_by (within fl.at p) x.0) (tt, flat_goes t g fl r) (flat_row t g fl p n x.0 r x.1 c))
        ]

    pub flat_settled : (p : List ℕ) (n : ℕ) → FlatReached t p (node n) → v (record { path = p; node = n }) ≡ w (record { path = []; node = fl.at.node p n })
    flat_settled p n r = flat_deep (length (settling.occurrences t)) p n (deep_start t whole free p n (flat_at t r)) r
