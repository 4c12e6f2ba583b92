-- A graph with one port more is formed.
use Rattle.std.proofs.Common.{◌≡◌, ℕ, ◌<◌, List, [], ◌∷◌, ◌++◌, length, refl, sym, subst, ◌∙◌, ap, inl, inr, arith}
use Rattle.std.specs.Prelude.{slice_get, Some, None}
use Rattle.std.proofs.lemmas.Option.{slice_get_within}
use Rattle.std.proofs.lemmas.Bool.{cases_lt}
use Rattle.std.proofs.lemmas.List.{length_push}
use Rattle.hc_fault.specs.declared.name.Name.{Name}
use Rattle.hc_bits.specs.BitVector.{IsWidth}
use Rattle.hc_signal.specs.declared.signal.Node.TheVariants.{Input, Wire, InstOut}
use Rattle.hc_signal.specs.declared.signal.NodeId.{NodeId}
use Rattle.hc_signal.specs.declared.signal.NodeRow.{NodeRow}
use Rattle.hc_signal.specs.declared.signal.Port.{Port}
use Rattle.hc_signal.specs.Graph.{Graph}
use Rattle.hc_signal.specs.Lawful.{IsLawfulNode, NodeAt, HasWidth, HaveWidthsOf}
use Rattle.hc_signal.specs.Builds.{unlabelled, port}
use Rattle.hc_unfold.specs.Formed.{IsFormed, more_inputs, more_outputs}
use Rattle.hc_unfold.proofs.RowPlaces.{has_pushed, has_from_place, place_left, place_last, place_cases}
use Rattle.hc_unfold.proofs.Extended.{Extends, lawful_node, lawful_memory, lawful_instance, have_widths}
use Rattle.hc_unfold.proofs.FormedNodes.{row_left, one_place}

module _ (g : Graph) (name : Name) (w : ℕ) (l : IsFormed g) (width : IsWidth w) where
  abbrev at : ℕ
  at = length g.ports.inputs

  abbrev in_row : NodeRow
  in_row = unlabelled w (Input at)

  abbrev h : Graph
  h = more_inputs g name w

  grown : Extends g h
  grown = record {
    nodes = λ n old e. (old, place_left g.nodes _ n old e, refl);
    memories = λ m mem e. (mem, e, refl);
    instances = λ i it e. (it, e, refl);
    inputs = λ k p e. place_left g.ports.inputs _ k p e;
  }

  -- no node stood for the new port
  is_new : (n : ℕ) → ¬ NodeAt g n (Input at)
  is_new n x =
      let was : _ = l.nodes n x.0 x.1 in
      let at_port : IsLawfulNode g x.0.width (Input at) = subst (λ node. IsLawfulNode g x.0.width node) x.2 was.1 in
      let within : at < length g.ports.inputs = slice_get_within g.ports.inputs at at_port.0 at_port.1 in
      absurd (omega arith)

  is_new_at : (k : ℕ) → in_row.node ≡ Input k → (n : ℕ) → ¬ NodeAt g n (Input k)
  is_new_at k e n x = let same : at ≡ k = cc in is_new n (subst (λ j. NodeAt g n (Input j)) (sym same) x)

  pub formed_with_input : IsFormed h
  formed_with_input = record {
    ports = record {
      inputs = λ p k. elim (has_pushed g.ports.inputs (port name w) p k) [ inl old ↦ l.ports.inputs p old | inr new ↦ subst (λ (q : Port). IsWidth q.width) new width ];
      outputs = l.ports.outputs;
    };
    nodes = λ n r e. elim (place_cases g.nodes in_row n r e) [
      | inl p ↦ (let was : _ = l.nodes n r p in (was.0, lawful_node g h grown r.width r.node was.1))
      | inr p ↦ subst (λ (r' : NodeRow). IsWidth r'.width × IsLawfulNode h r'.width r'.node) p.1 (width, (port name w, place_last g.ports.inputs _, refl))
    ];
    memories = λ m k. lawful_memory g h grown m (l.memories m k);
    instances = λ i k. lawful_instance g h grown i (l.instances i k);
    outputs = have_widths g h grown g.outputs _ l.outputs;
    wires = λ id k. (let was : _ = l.wires id k in (was.0, was.1, place_left g.nodes _ id.0 was.0 was.2, was.3, was.4));
    own_wire = l.own_wire;
    inputs = λ k b. elim (cases_lt k at) [
      | inl lt ↦ (let was : _ = l.inputs k lt in (was.0, row_left g.nodes _ was.0 (Input k) was.1))
      | inr ge ↦ (let many : _ = length_push g.ports.inputs (port name w) in let e : at ≡ k = omega arith in
          (length g.nodes, (in_row, place_last g.nodes in_row, ap (λ j. Input j) e)))
    ];
    one_input = λ m n k. one_place g.nodes in_row (Input k) (λ m' n'. l.one_input m' n' k) (is_new_at k) m n;
    no_label = λ n k r e q. elim (place_cases g.nodes in_row n r e) [
      | inl p ↦ l.no_label n k r p q
      | inr p ↦ ap (λ (r' : NodeRow). r'.label) (sym p.1)
    ];
    one_output = λ m n k i. one_place g.nodes in_row (InstOut i k) (λ m' n'. l.one_output m' n' k i) (λ e. cc) m n;
  }

-- one part more, of its width
have_widths_push : (g : Graph) (ids : List NodeId) (ps : List Port) (id : NodeId) (p : Port) → HaveWidthsOf g ids ps → HasWidth g id p.width → HaveWidthsOf g (ids ++ id ∷ []) (ps ++ p ∷ [])
have_widths_push g [] [] id p h k = (k, tt)
have_widths_push g (i ∷ ids) (q ∷ ps) id p h k = (h.0, have_widths_push g ids ps id p h.1 k)
have_widths_push g [] (q ∷ ps) id p h k = absurd h
have_widths_push g (i ∷ ids) [] id p h k = absurd h

module _ (g : Graph) (name : Name) (w : ℕ) (l : IsFormed g) (width : IsWidth w) where
  abbrev id : NodeId
  id = record { 0 = length g.nodes }

  abbrev out_row : NodeRow
  out_row = unlabelled w (Wire None)

  abbrev with_out : Graph
  with_out = more_outputs g name w

  out_grown : Extends g with_out
  out_grown = record {
    nodes = λ n old e. (old, place_left g.nodes _ n old e, refl);
    memories = λ m mem e. (mem, e, refl);
    instances = λ i it e. (it, e, refl);
    inputs = λ k p e. e;
  }

  -- the numbers of outputs are those of nodes
  within : (i : ℕ) (o : NodeId) → slice_get g.outputs i ≡ Some o → o.0 < length g.nodes
  within i o e = let was : _ = l.wires o (has_from_place g.outputs i o e) in slice_get_within g.nodes o.0 was.0 was.2

  pub formed_with_output : IsFormed with_out
  formed_with_output = record {
    ports = record {
      inputs = l.ports.inputs;
      outputs = λ p k. elim (has_pushed g.ports.outputs (port name w) p k) [ inl old ↦ l.ports.outputs p old | inr new ↦ subst (λ (q : Port). IsWidth q.width) new width ];
    };
    nodes = λ n r e. elim (place_cases g.nodes out_row n r e) [
      | inl p ↦ (let was : _ = l.nodes n r p in (was.0, lawful_node g with_out out_grown r.width r.node was.1))
      | inr p ↦ subst (λ (r' : NodeRow). IsWidth r'.width × IsLawfulNode with_out r'.width r'.node) p.1 (width, tt)
    ];
    memories = λ m k. lawful_memory g with_out out_grown m (l.memories m k);
    instances = λ i k. lawful_instance g with_out out_grown i (l.instances i k);
    outputs = have_widths_push with_out g.outputs g.ports.outputs id (port name w) (have_widths g with_out out_grown g.outputs _ l.outputs) (out_row, place_last g.nodes out_row, refl);
    wires = λ o k. elim (has_pushed g.outputs id o k) [
      | inl old ↦ (let was : _ = l.wires o old in (was.0, was.1, place_left g.nodes _ o.0 was.0 was.2, was.3, was.4))
      | inr new ↦ (out_row, None, subst (λ (i : NodeId). slice_get (g.nodes ++ out_row ∷ []) i.0 ≡ Some out_row) new (place_last g.nodes out_row), refl, refl)
    ];
    own_wire = λ i j o a b. elim (place_cases g.outputs id i o a) [
      | inl p ↦ elim (place_cases g.outputs id j o b) [
        | inl q ↦ l.own_wire i j o p q
        | inr q ↦ (let lt : _ = within i o p in let e : length g.nodes ≡ o.0 = ap (λ (x : NodeId). x.0) q.1 in absurd (omega arith))
      ]
      | inr p ↦ elim (place_cases g.outputs id j o b) [
        | inl q ↦ (let lt : _ = within j o q in let e : length g.nodes ≡ o.0 = ap (λ (x : NodeId). x.0) p.1 in absurd (omega arith))
        | inr q ↦ p.0 ∙ sym q.0
      ]
    ];
    inputs = λ k b. (let was : _ = l.inputs k b in (was.0, row_left g.nodes _ was.0 (Input k) was.1));
    one_input = λ m n k. one_place g.nodes out_row (Input k) (λ m' n'. l.one_input m' n' k) (λ e. cc) m n;
    no_label = λ n k r e q. elim (place_cases g.nodes out_row n r e) [
      | inl p ↦ l.no_label n k r p q
      | inr p ↦ ap (λ (r' : NodeRow). r'.label) (sym p.1)
    ];
    one_output = λ m n k i. one_place g.nodes out_row (InstOut i k) (λ m' n'. l.one_output m' n' k i) (λ e. cc) m n;
  }
