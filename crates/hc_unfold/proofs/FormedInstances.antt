-- A graph with one instance more, or a labelled one, is formed.
use Rattle.std.proofs.Common.{◌≡◌, ◌≢◌, ℕ, zero, suc, ◌+◌, ◌<◌, ◌≤◌, ◌⊎◌, List, [], ◌∷◌, ◌++◌, length, refl, sym, subst, ◌∙◌, ap, inl, inr, arith, append_assoc, append-nil}
use Rattle.std.specs.Prelude.{slice_get, Some, None}
use Rattle.std.proofs.lemmas.Option.{slice_get_within, same_Some}
use Rattle.std.proofs.lemmas.Bool.{cases_eq}
use Rattle.std.proofs.lemmas.List.{length_push}
use Rattle.hc_fault.specs.declared.name.Name.{Name}
use Rattle.hc_bits.specs.BitVector.{IsWidth}
use Rattle.hc_signal.specs.Member.{Has, first, later}
use Rattle.hc_signal.specs.declared.signal.InstId.{InstId}
use Rattle.hc_signal.specs.declared.signal.Instance.{Instance}
use Rattle.hc_signal.specs.declared.signal.Node.{Node}
use Rattle.hc_signal.specs.declared.signal.Node.TheVariants.{InstOut}
use Rattle.hc_signal.specs.declared.signal.NodeId.{NodeId}
use Rattle.hc_signal.specs.declared.signal.NodeRow.{NodeRow}
use Rattle.hc_signal.specs.declared.signal.Port.{Port}
use Rattle.hc_signal.specs.declared.signal.Ports.{Ports}
use Rattle.hc_signal.specs.Graph.{Graph}
use Rattle.hc_signal.specs.Lawful.{IsLawfulNode, IsLawfulInstance, NodeAt, HaveWidthsOf, ArePorts}
use Rattle.hc_signal.specs.Builds.{with_row, unlabelled, change_at, output_rows, labelled_instance}
use Rattle.hc_unfold.specs.Formed.{IsFormed}
use Rattle.hc_unfold.proofs.RowPlaces.{has_pushed, has_place, has_from_place, place_left, place_last, place_cases, changed_there, same_elsewhere}
use Rattle.hc_unfold.proofs.Extended.{Extends, lawful_node, lawful_memory, lawful_instance, have_widths}
use Rattle.hc_unfold.proofs.FormedNodes.{formed_with_row}

abbrev at : ℕ → InstId
at i = record { 0 = i }

-- the nodes of the outputs from the k-th on are lawful, where no node stands for them yet
pub formed_outputs : (g : Graph) (i : ℕ) (it : Instance) (k : ℕ) (ps : List Port) → IsFormed g → slice_get g.instances i ≡ Some it
    → ((j : ℕ) (p : Port) → slice_get ps j ≡ Some p → slice_get it.ports.outputs (k + j) ≡ Some p) → ((p : Port) → Has ps p → IsWidth p.width)
    → ((j n : ℕ) → k ≤ j → ¬ NodeAt g n (InstOut (at i) j))
    → IsFormed (record g { nodes = g.nodes ++ output_rows i k ps })
formed_outputs g i it k [] l there ports widths is_new =
    subst (λ rows. IsFormed (record g { nodes = rows })) (sym (append-nil g.nodes)) l
formed_outputs g i it k (p ∷ ps) l there ports widths is_new =
    let x : Node = InstOut (at i) k in
    let row : NodeRow = unlabelled p.width x in
    let h : Graph = with_row g row in
    let many : length (g.nodes ++ row ∷ []) ≡ length g.nodes + 1 = length_push g.nodes row in
    let here : slice_get it.ports.outputs k ≡ Some p = subst (λ n. slice_get it.ports.outputs n ≡ Some p) (omega arith) (ports zero p refl) in
    let l' : IsFormed h = formed_with_row g p.width x l (widths p first) (it, p, there, here, refl)
    (λ j e n _. cc)
    (λ (o : InstId) j e n a. (let same : o ≡ at i = cc in let at_k : k ≡ j = cc in
    is_new j n (omega arith) (subst (λ (o' : InstId). NodeAt g n (InstOut o' j)) same a))) in
    let rest : IsFormed (record h { nodes = h.nodes ++ output_rows i (k + 1) ps })
    = formed_outputs h i it (k + 1) ps l' there
    (λ j q e. subst (λ n. slice_get it.ports.outputs n ≡ Some q) (omega arith) (ports (suc j) q e))
    (λ q m. widths q (later m))
    (λ j n le a. elim (place_cases g.nodes row n a.0 a.1) [
      | inl old ↦ is_new j n (omega arith) (a.0, old, a.2)
      | inr new ↦ (let e : InstOut (at i) k ≡ InstOut (at i) j = ap (λ (r : NodeRow). r.node) new.1 ∙ a.2 in let same : k ≡ j = cc in absurd (omega arith))
    ]) in
    subst (λ rows. IsFormed (record g { nodes = rows })) (append_assoc g.nodes (row ∷ []) (output_rows i (k + 1) ps)) rest

module _ (g : Graph) (ports : Ports) (conns : List NodeId) (l : IsFormed g) (are : ArePorts ports) (have : HaveWidthsOf g conns ports.inputs) where
  abbrev it : Instance
  it = record { ports = ports; conns = conns; label = None }

  abbrev i : ℕ
  i = length g.instances

  abbrev alone : Graph
  alone = record g { instances = g.instances ++ it ∷ [] }

  grown : Extends g alone
  grown = record {
    nodes = λ n row e. (row, e, refl);
    memories = λ m mem e. (mem, e, refl);
    instances = λ j old e. (old, place_left g.instances _ j old e, refl);
    inputs = λ k p e. e;
  }

  formed_alone : IsFormed alone
  formed_alone = record {
    ports = l.ports;
    nodes = λ n row e. (let was : _ = l.nodes n row e in (was.0, lawful_node g alone grown row.width row.node was.1));
    memories = λ m k. lawful_memory g alone grown m (l.memories m k);
    instances = λ j k. elim (has_pushed g.instances it j k) [
      | inl old ↦ lawful_instance g alone grown j (l.instances j old)
      | inr new ↦ subst (IsLawfulInstance alone) new (record { ports = are; conns = have_widths g alone grown conns _ have })
    ];
    outputs = have_widths g alone grown g.outputs _ l.outputs;
    wires = l.wires;
    own_wire = l.own_wire;
    inputs = l.inputs;
    one_input = l.one_input;
    no_label = l.no_label;
    one_output = l.one_output;
  }

  -- no node stood for an output of the new instance
  none_yet : (j n : ℕ) → ¬ NodeAt g n (InstOut (at i) j)
  none_yet j n a =
      let was : _ = l.nodes n a.0 a.1 in
      let own : IsLawfulNode g a.0.width (InstOut (at i) j) = subst (λ x. IsLawfulNode g a.0.width x) a.2 was.1 in
      let within : i < length g.instances = slice_get_within g.instances i own.0 own.2 in
      absurd (omega arith)

  abbrev rows : List NodeRow
  rows = output_rows i 0 ports.outputs

  abbrev whole : Graph
  whole = record alone { nodes = g.nodes ++ rows }

  pub formed_whole : IsFormed whole
  formed_whole = formed_outputs alone i it 0 ports.outputs formed_alone (place_last g.instances it)
      (λ j p e. subst (λ n. slice_get ports.outputs n ≡ Some p) (omega arith) e) are.outputs (λ j n le. none_yet j n)

module _ (g : Graph) (n : ℕ) (label : Name) (old : Instance) (there : slice_get g.instances n ≡ Some old) where
  abbrev f : Instance → Instance
  f = labelled_instance label

  abbrev changed : Graph
  changed = record g { instances = change_at f n g.instances }

  instance_kept : (i : ℕ) (it : Instance) → slice_get g.instances i ≡ Some it
      → ((i ≡ n) × (old ≡ it) × (slice_get changed.instances i ≡ Some (f old))) ⊎ ((i ≢ n) × (slice_get changed.instances i ≡ Some it))
  instance_kept i it e = elim (cases_eq i n) [
    | inl same ↦ inl (same, same_Some old it (sym there ∙ (ap (slice_get g.instances) (sym same) ∙ e)), ap (slice_get changed.instances) same ∙ changed_there f n g.instances old there)
    | inr other ↦ inr (other, same_elsewhere f n g.instances i other ∙ e)
  ]

  with_label : Extends g changed
  with_label = record {
    nodes = λ m row e. (row, e, refl);
    memories = λ m mem e. (mem, e, refl);
    instances = λ i it e. elim (instance_kept i it e) [
      | inl p ↦ (f old, p.2, ap (λ (o : Instance). o.ports) p.1)
      | inr p ↦ (it, p.1, refl)
    ];
    inputs = λ k p e. e;
  }

  -- an instance of the changed graph: the labelled one, or as before
  instance_cases : (i : ℕ) (it : Instance) → slice_get changed.instances i ≡ Some it → ((i ≡ n) × (f old ≡ it)) ⊎ (slice_get g.instances i ≡ Some it)
  instance_cases i it e = elim (cases_eq i n) [
    | inl same ↦ inl (same, same_Some (f old) it (sym (changed_there f n g.instances old there) ∙ (ap (slice_get changed.instances) (sym same) ∙ e)))
    | inr other ↦ inr (sym (same_elsewhere f n g.instances i other) ∙ e)
  ]

  lawful_labelled : IsFormed g → IsLawfulInstance changed (f old)
  lawful_labelled l =
      let was : _ = lawful_instance g changed with_label old (l.instances old (has_from_place g.instances n old there)) in
      record { ports = was.ports; conns = was.conns }

  pub formed_instance : IsFormed g → IsFormed changed
  formed_instance l = record {
    ports = l.ports;
    nodes = λ m row e. (let was : _ = l.nodes m row e in (was.0, lawful_node g changed with_label row.width row.node was.1));
    memories = λ m k. lawful_memory g changed with_label m (l.memories m k);
    instances = λ it k. (let at : _ = has_place k in elim (instance_cases at.0 it at.1) [
      | inl p ↦ subst (IsLawfulInstance changed) p.1 (lawful_labelled l)
      | inr p ↦ lawful_instance g changed with_label it (l.instances it (has_from_place g.instances at.0 it p))
    ]);
    outputs = have_widths g changed with_label g.outputs _ l.outputs;
    wires = l.wires;
    own_wire = l.own_wire;
    inputs = l.inputs;
    one_input = l.one_input;
    no_label = l.no_label;
    one_output = l.one_output;
  }
