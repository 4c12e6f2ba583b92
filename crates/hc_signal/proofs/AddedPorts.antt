-- A builder with one port more is kept.
use Rattle.std.proofs.Common.{◌≡◌, ℕ, suc, ◌+◌, ◌<◌, ◌≤◌, ◌⊎◌, Bool, true, false, ◌==◌, ◌||◌, List, [], ◌∷◌, ◌++◌, map, length, refl, sym, subst, ◌∙◌, ap, inl, inr, arith}
use Rattle.std.specs.Prelude.{slice_get, Some, None}
use Rattle.std.specs.List.{list_any}
use Rattle.std.proofs.lemmas.Option.{slice_get_within, same_Some}
use Rattle.std.proofs.lemmas.Bool.{ne_eqb, eq-eqb, cases_lt, or_right}
use Rattle.std.proofs.lemmas.List.{length_push}
use Rattle.std.proofs.lemmas.List.Folds.{list_any-append}
use Rattle.std.proofs.Math.Bool.{or-false}
use Rattle.hc_fault.specs.declared.name.Name.{Name}
use Rattle.hc_signal.specs.Member.{Has}
use Rattle.hc_signal.specs.declared.signal.Port.{Port}
use Rattle.hc_signal.specs.declared.signal.Ports.{Ports}
use Rattle.hc_signal.specs.declared.signal.NodeId.{NodeId}
use Rattle.hc_signal.specs.declared.signal.NodeRow.{NodeRow}
use Rattle.hc_signal.specs.declared.signal.Node.TheVariants.{Input, Wire, InstOut}
use Rattle.hc_bits.specs.BitVector.{IsWidth}
use Rattle.hc_signal.specs.Graph.{Graph}
use Rattle.hc_signal.specs.Lawful.{IsLawful, IsLawfulNode, NodeAt, HaveWidths, HasWidth, HaveWidthsOf}
use Rattle.hc_signal.specs.Builds.{with_row, unlabelled, port, HasRoomForNode, is_output}
use Rattle.hc_signal.specs.Kept.{IsKept}
use Rattle.hc_signal.proofs.Places.{has_pushed, has_from_place, place_left, place_last, place_cases}
use Rattle.hc_signal.proofs.Grows.{Extends, lawful_node, lawful_memory, lawful_instance, have_widths}
use Rattle.hc_signal.proofs.Added.{RowAt, row_left, one_place, weight_with_row, marks_push, no_output_past, outputs_left}

-- ---- an input port, and its node

abbrev pub more_inputs : Graph → Name → ℕ → Graph
more_inputs g name w = record g { ports = record { inputs = g.ports.inputs ++ port name w ∷ []; outputs = g.ports.outputs } }

module _ (g : Graph) (name : Name) (w : ℕ) (l : IsLawful g) (width : IsWidth w) (room : length g.nodes + 1 < 4294967296) where
  abbrev at : ℕ
  at = length g.ports.inputs

  abbrev in_row : NodeRow
  in_row = unlabelled w (Input at)

  abbrev h : Graph
  h = with_row (more_inputs g name w) in_row

  grown : Extends g h
  grown = record {
    nodes = λ n old e. (old, place_left g.nodes _ n old e, refl);
    memories = λ m mem e. (mem, e, refl);
    instances = λ i it e. (it, e, refl);
    inputs = λ k p e. place_left g.ports.inputs _ k p e;
  }

  -- no node stood for the new port
  is_new : (n : ℕ) → ¬ NodeAt g n (Input at)
  is_new n x =
      let was : _ = l.nodes n x.0 x.1 in
      let at_port : IsLawfulNode g x.0.width (Input at) = subst (λ node. IsLawfulNode g x.0.width node) x.2 was.1 in
      let within : at < length g.ports.inputs = slice_get_within g.ports.inputs at at_port.0 at_port.1 in
      absurd (omega arith)

  is_new_at : (k : ℕ) → in_row.node ≡ Input k → (n : ℕ) → ¬ NodeAt g n (Input k)
  is_new_at k e n x = let same : at ≡ k = cc in is_new n (subst (λ j. NodeAt g n (Input j)) (sym same) x)

  lawful_with_input : IsLawful h
  lawful_with_input = record {
    ports = record {
      inputs = λ p k. elim (has_pushed g.ports.inputs (port name w) p k) [ inl old ↦ l.ports.inputs p old | inr new ↦ subst (λ (q : Port). IsWidth q.width) new width ];
      outputs = l.ports.outputs;
    };
    nodes = λ n r e. elim (place_cases g.nodes in_row n r e) [
      | inl p ↦ (let was : _ = l.nodes n r p in (was.0, lawful_node g h grown r.width r.node was.1))
      | inr p ↦ subst (λ (r' : NodeRow). IsWidth r'.width × IsLawfulNode h r'.width r'.node) p.1 (width, (port name w, place_last g.ports.inputs _, refl))
    ];
    memories = λ m k. lawful_memory g h grown m (l.memories m k);
    instances = λ i k. lawful_instance g h grown i (l.instances i k);
    outputs = have_widths g h grown g.outputs _ l.outputs;
    wires = λ id k. (let was : _ = l.wires id k in (was.0, was.1, place_left g.nodes _ id.0 was.0 was.2, was.3, was.4));
    own_wire = l.own_wire;
    inputs = λ k b. elim (cases_lt k at) [
      | inl lt ↦ (let was : _ = l.inputs k lt in (was.0, row_left g.nodes _ was.0 (Input k) was.1))
      | inr ge ↦ (let many : _ = length_push g.ports.inputs (port name w) in let e : at ≡ k = omega arith in
          (length g.nodes, (in_row, place_last g.nodes in_row, ap (λ j. Input j) e)))
    ];
    one_input = λ m n k. one_place g.nodes in_row (Input k) (λ m' n'. l.one_input m' n' k) (is_new_at k) m n;
    no_label = λ n k r e q. elim (place_cases g.nodes in_row n r e) [
      | inl p ↦ l.no_label n k r p q
      | inr p ↦ ap (λ (r' : NodeRow). r'.label) (sym p.1)
    ];
    one_output = λ m n k i. one_place g.nodes in_row (InstOut i k) (λ m' n'. l.one_output m' n' k i) (λ e. cc) m n;
    few = (let n : _ = length_push g.nodes in_row in omega arith, l.few.1, l.few.2);
  }

kept_with_input : (g : Graph) (name : Name) (w : ℕ) (weight : ℕ) (marks : List Bool) (firsts : List ℕ) → IsKept g weight marks firsts → HasRoomForNode g 0 → IsWidth w
    → IsKept (with_row (more_inputs g name w) (unlabelled w (Input (length g.ports.inputs)))) (weight + 1) (marks ++ false ∷ []) firsts
kept_with_input g name w weight marks firsts kept room width =
    let l : IsLawful g = kept.lawful in
    let new : NodeRow = unlabelled w (Input (length g.ports.inputs)) in
    let longer : _ = length_push g.nodes new in
    record {
      lawful = lawful_with_input g name w l width room.0;
      total = (let e : _ = weight_with_row g new in let t : _ = kept.total in omega arith);
      marked = (let m : _ = length_push marks false in let n : _ = kept.marked in omega arith);
      wires = λ n b. marks_push (is_output g) (is_output g) (length g.nodes) marks false kept.marked kept.wires (λ k c. refl) (no_output_past g l (length g.nodes) (omega arith)) n (omega arith);
      counted = kept.counted;
      first_nodes = λ i it e. (let was : _ = kept.first_nodes i it e in (was.0, was.1, outputs_left g.nodes _ i was.0 (length it.ports.outputs) was.2));
      few_ports = (let f : _ = kept.few_ports in let p : _ = length_push g.ports.inputs (port name w) in omega arith);
    }

-- the same, over lists that are known by equations
pub kept_input : (g old : Graph) (name : Name) (w at : ℕ) (ins ins' : List Port) (rows rows' : List NodeRow) (weight : ℕ) (marks marks' marks'' : List Bool) (firsts : List ℕ)
    → IsKept g weight marks firsts → g ≡ old → HasRoomForNode old 0 → IsWidth w → at ≡ length g.ports.inputs
    → ins' ≡ ins ++ port name w ∷ [] → ins ≡ g.ports.inputs → rows' ≡ rows ++ unlabelled w (Input at) ∷ [] → rows ≡ g.nodes → marks'' ≡ marks' ++ false ∷ [] → marks' ≡ marks
    → IsKept (record g { ports = record { inputs = ins'; outputs = g.ports.outputs }; nodes = rows' }) (weight + 1) marks'' firsts
kept_input g old name w at ins ins' rows rows' weight marks marks' marks'' firsts kept same room width n a b c d e f =
    let new : Port = port name w in
    let row : ℕ → NodeRow = λ k. unlabelled w (Input k) in
    let is_ins : ins' ≡ g.ports.inputs ++ new ∷ [] = a ∙ ap (λ xs. xs ++ new ∷ []) b in
    let is_rows : rows' ≡ g.nodes ++ row (length g.ports.inputs) ∷ [] = c ∙ (ap (λ xs. xs ++ row at ∷ []) d ∙ ap (λ k. g.nodes ++ row k ∷ []) n) in
    let is_marks : marks'' ≡ marks ++ false ∷ [] = e ∙ ap (λ xs. xs ++ false ∷ []) f in
    subst (λ xs. IsKept (record g { ports = record { inputs = xs; outputs = g.ports.outputs }; nodes = rows' }) (weight + 1) marks'' firsts) (sym is_ins)
    (subst (λ xs. IsKept (record (more_inputs g name w) { nodes = xs }) (weight + 1) marks'' firsts) (sym is_rows)
    (subst (λ xs. IsKept (with_row (more_inputs g name w) (row (length g.ports.inputs))) (weight + 1) xs firsts) (sym is_marks)
    (kept_with_input g name w weight marks firsts kept (subst (λ h. HasRoomForNode h 0) (sym same) room) width)))

-- ---- an output port, and its wire

abbrev pub more_outputs : Graph → Name → ℕ → NodeId → Graph
more_outputs g name w id = record g { ports = record { inputs = g.ports.inputs; outputs = g.ports.outputs ++ port name w ∷ [] }; outputs = g.outputs ++ id ∷ [] }

-- one part more, of its width
have_widths_push : (g : Graph) (ids : List NodeId) (ps : List Port) (id : NodeId) (p : Port) → HaveWidthsOf g ids ps → HasWidth g id p.width → HaveWidthsOf g (ids ++ id ∷ []) (ps ++ p ∷ [])
have_widths_push g [] [] id p h k = (k, tt)
have_widths_push g (i ∷ ids) (q ∷ ps) id p h k = (h.0, have_widths_push g ids ps id p h.1 k)
have_widths_push g [] (q ∷ ps) id p h k = absurd h
have_widths_push g (i ∷ ids) [] id p h k = absurd h

module _ (g : Graph) (name : Name) (w : ℕ) (l : IsLawful g) (width : IsWidth w) (room : length g.nodes + 1 < 4294967296) where
  abbrev id : NodeId
  id = record { 0 = length g.nodes }

  abbrev out_row : NodeRow
  out_row = unlabelled w (Wire None)

  abbrev with_out : Graph
  with_out = with_row (more_outputs g name w id) out_row

  out_grown : Extends g with_out
  out_grown = record {
    nodes = λ n old e. (old, place_left g.nodes _ n old e, refl);
    memories = λ m mem e. (mem, e, refl);
    instances = λ i it e. (it, e, refl);
    inputs = λ k p e. e;
  }

  -- the numbers of outputs are those of nodes
  within : (i : ℕ) (o : NodeId) → slice_get g.outputs i ≡ Some o → o.0 < length g.nodes
  within i o e = let was : _ = l.wires o (has_from_place g.outputs i o e) in slice_get_within g.nodes o.0 was.0 was.2

  lawful_with_output : IsLawful with_out
  lawful_with_output = record {
    ports = record {
      inputs = l.ports.inputs;
      outputs = λ p k. elim (has_pushed g.ports.outputs (port name w) p k) [ inl old ↦ l.ports.outputs p old | inr new ↦ subst (λ (q : Port). IsWidth q.width) new width ];
    };
    nodes = λ n r e. elim (place_cases g.nodes out_row n r e) [
      | inl p ↦ (let was : _ = l.nodes n r p in (was.0, lawful_node g with_out out_grown r.width r.node was.1))
      | inr p ↦ subst (λ (r' : NodeRow). IsWidth r'.width × IsLawfulNode with_out r'.width r'.node) p.1 (width, tt)
    ];
    memories = λ m k. lawful_memory g with_out out_grown m (l.memories m k);
    instances = λ i k. lawful_instance g with_out out_grown i (l.instances i k);
    outputs = have_widths_push with_out g.outputs g.ports.outputs id (port name w) (have_widths g with_out out_grown g.outputs _ l.outputs) (out_row, place_last g.nodes out_row, refl);
    wires = λ o k. elim (has_pushed g.outputs id o k) [
      | inl old ↦ (let was : _ = l.wires o old in (was.0, was.1, place_left g.nodes _ o.0 was.0 was.2, was.3, was.4))
      | inr new ↦ (out_row, None, subst (λ (i : NodeId). slice_get (g.nodes ++ out_row ∷ []) i.0 ≡ Some out_row) new (place_last g.nodes out_row), refl, refl)
    ];
    own_wire = λ i j o a b. elim (place_cases g.outputs id i o a) [
      | inl p ↦ elim (place_cases g.outputs id j o b) [
        | inl q ↦ l.own_wire i j o p q
        | inr q ↦ (let lt : _ = within i o p in let e : length g.nodes ≡ o.0 = ap (λ (x : NodeId). x.0) q.1 in absurd (omega arith))
      ]
      | inr p ↦ elim (place_cases g.outputs id j o b) [
        | inl q ↦ (let lt : _ = within j o q in let e : length g.nodes ≡ o.0 = ap (λ (x : NodeId). x.0) p.1 in absurd (omega arith))
        | inr q ↦ p.0 ∙ sym q.0
      ]
    ];
    inputs = λ k b. (let was : _ = l.inputs k b in (was.0, row_left g.nodes _ was.0 (Input k) was.1));
    one_input = λ m n k. one_place g.nodes out_row (Input k) (λ m' n'. l.one_input m' n' k) (λ e. cc) m n;
    no_label = λ n k r e q. elim (place_cases g.nodes out_row n r e) [
      | inl p ↦ l.no_label n k r p q
      | inr p ↦ ap (λ (r' : NodeRow). r'.label) (sym p.1)
    ];
    one_output = λ m n k i. one_place g.nodes out_row (InstOut i k) (λ m' n'. l.one_output m' n' k i) (λ e. cc) m n;
    few = (let n : _ = length_push g.nodes out_row in omega arith, l.few.1, l.few.2);
  }

kept_with_output : (g : Graph) (name : Name) (w : ℕ) (weight : ℕ) (marks : List Bool) (firsts : List ℕ) → IsKept g weight marks firsts → HasRoomForNode g 1 → IsWidth w
    → IsKept (with_row (more_outputs g name w (record { 0 = length g.nodes })) (unlabelled w (Wire None))) (weight + 2) (marks ++ true ∷ []) firsts
kept_with_output g name w weight marks firsts kept room width =
    let l : IsLawful g = kept.lawful in
    let new : NodeRow = unlabelled w (Wire None) in
    let id : NodeId = record { 0 = length g.nodes } in
    let test : ℕ → NodeId → Bool = λ n i. i.0 == n in
    let longer : _ = length_push g.nodes new in
    let elsewhere : (n : ℕ) → n < length g.nodes → list_any (test n) (g.outputs ++ id ∷ []) ≡ is_output g n
    = (λ n b. list_any-append (test n) g.outputs (id ∷ []) ∙ (let other : (length g.nodes == n) ≡ false = ne_eqb (length g.nodes) n (λ e. omega arith) in
    ap (λ t. is_output g n || (t || false)) other ∙ or-false (is_output g n))) in
    let here : list_any (test (length g.nodes)) (g.outputs ++ id ∷ []) ≡ true
    = list_any-append (test (length g.nodes)) g.outputs (id ∷ []) ∙ (let own : (length g.nodes == length g.nodes) ≡ true = eq-eqb (length g.nodes) (length g.nodes) refl in
    ap (λ t. is_output g (length g.nodes) || (t || false)) own ∙ or_right (is_output g (length g.nodes)) true refl) in
    record {
      lawful = lawful_with_output g name w l width room.0;
      total = (let e : _ = weight_with_row g new in let t : _ = kept.total in omega arith);
      marked = (let m : _ = length_push marks true in let n : _ = kept.marked in omega arith);
      wires = λ n b. marks_push (is_output g) (λ k. list_any (test k) (g.outputs ++ id ∷ [])) (length g.nodes) marks true kept.marked kept.wires elsewhere here n (omega arith);
      counted = kept.counted;
      first_nodes = λ i it e. (let was : _ = kept.first_nodes i it e in (was.0, was.1, outputs_left g.nodes _ i was.0 (length it.ports.outputs) was.2));
      few_ports = (let f : _ = kept.few_ports in let p : _ = length_push g.ports.outputs (port name w) in omega arith);
    }

pub kept_output : (g old : Graph) (name : Name) (w : ℕ) (id : NodeId) (outs outs' : List Port) (ids ids' : List NodeId) (rows rows' : List NodeRow) (weight : ℕ) (marks marks' marks'' : List Bool) (firsts : List ℕ)
    → IsKept g weight marks firsts → g ≡ old → HasRoomForNode old 1 → IsWidth w → id.0 ≡ length g.nodes
    → outs' ≡ outs ++ port name w ∷ [] → outs ≡ g.ports.outputs → ids' ≡ ids ++ id ∷ [] → ids ≡ g.outputs → rows' ≡ rows ++ unlabelled w (Wire None) ∷ [] → rows ≡ g.nodes → marks'' ≡ marks' ++ true ∷ [] → marks' ≡ marks
    → IsKept (record g { ports = record { inputs = g.ports.inputs; outputs = outs' }; outputs = ids'; nodes = rows' }) (weight + 2) marks'' firsts
kept_output g old name w id outs outs' ids ids' rows rows' weight marks marks' marks'' firsts kept same room width n a b c d e f h i =
    let new : Port = port name w in
    let row : NodeRow = unlabelled w (Wire None) in
    let at : NodeId = record { 0 = length g.nodes } in
    let is_id : id ≡ at = ap (λ k. (let x : NodeId = record { 0 = k } in x)) n in
    let is_outs : outs' ≡ g.ports.outputs ++ new ∷ [] = a ∙ ap (λ xs. xs ++ new ∷ []) b in
    let is_ids : ids' ≡ g.outputs ++ at ∷ [] = c ∙ (ap (λ xs. xs ++ id ∷ []) d ∙ ap (λ x. g.outputs ++ x ∷ []) is_id) in
    let is_rows : rows' ≡ g.nodes ++ row ∷ [] = e ∙ ap (λ xs. xs ++ row ∷ []) f in
    let is_marks : marks'' ≡ marks ++ true ∷ [] = h ∙ ap (λ xs. xs ++ true ∷ []) i in
    subst (λ xs. IsKept (record g { ports = record { inputs = g.ports.inputs; outputs = xs }; outputs = ids'; nodes = rows' }) (weight + 2) marks'' firsts) (sym is_outs)
    (subst (λ xs. IsKept (record (more_outputs g name w at) { outputs = xs; nodes = rows' }) (weight + 2) marks'' firsts) (sym is_ids)
    (subst (λ xs. IsKept (record (more_outputs g name w at) { nodes = xs }) (weight + 2) marks'' firsts) (sym is_rows)
    (subst (λ xs. IsKept (with_row (more_outputs g name w at) row) (weight + 2) xs firsts) (sym is_marks)
    (kept_with_output g name w weight marks firsts kept (subst (λ h. HasRoomForNode h 1) (sym same) room) width))))
