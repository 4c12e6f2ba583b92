-- A builder with a changed row is kept.
use Rattle.std.proofs.Common.{◌≡◌, ◌≢◌, ℕ, ◌+◌, ◌<◌, ◌≤◌, ◌⊎◌, Bool, true, false, List, [], ◌∷◌, map, length, refl, sym, subst, ◌∙◌, ap, inl, inr, arith}
use Rattle.std.specs.Prelude.{slice_get, slice_set, Some, None}
use Rattle.std.proofs.lemmas.Option.{slice_get_within, same_Some}
use Rattle.std.proofs.lemmas.Bool.{cases_eq}
use Rattle.hc_signal.specs.Member.{Has}
use Rattle.hc_signal.specs.declared.signal.NodeId.{NodeId}
use Rattle.hc_signal.specs.declared.signal.NodeRow.{NodeRow}
use Rattle.hc_signal.specs.declared.signal.Node.{Node}
use Rattle.hc_signal.specs.declared.signal.Node.TheVariants.{Input, Wire, InstOut}
use Rattle.hc_bits.specs.BitVector.{IsWidth}
use Rattle.hc_signal.specs.Graph.{Graph}
use Rattle.hc_signal.specs.Lawful.{IsLawful, IsLawfulNode, NodeAt}
use Rattle.hc_signal.specs.Weight.{graph_weight, node_weight}
use Rattle.hc_signal.specs.Builds.{change_at, is_inner, is_output}
use Rattle.hc_signal.specs.Kept.{IsKept}
use Rattle.hc_signal.proofs.Places.{changed_there, same_elsewhere, length-change_at, sum_by-change_at, set_changes}
use Rattle.hc_signal.proofs.Grows.{Extends, lawful_node, lawful_memory, lawful_instance, have_widths}

-- what a new row at the place of an old one has to keep
pub record Replaces (g : Graph) (n : ℕ) (old new : NodeRow) : Type 0 where
  pub there : slice_get g.nodes n ≡ Some old
  pub width : new.width ≡ old.width
  pub node : IsLawfulNode g new.width new.node
  pub weight : node_weight new ≡ node_weight old
  -- it stands for the same port
  pub back : (x : Node) → is_inner x ≡ false → new.node ≡ x → old.node ≡ x
  pub forth : (x : Node) → is_inner x ≡ false → old.node ≡ x → new.node ≡ x
  pub input_label : (k : ℕ) → new.node ≡ Input k → new.label ≡ None
  pub output_label : (id : NodeId) → Has g.outputs id → id.0 ≡ n → (driver : _) × (new.node ≡ Wire driver) × (new.label ≡ None)

module _ (g : Graph) (n : ℕ) (f : NodeRow → NodeRow) (old : NodeRow) (r : Replaces g n old (f old)) where
  abbrev changed : Graph
  changed = record g { nodes = change_at f n g.nodes }

  -- a row of the changed graph: the new one, or as before
  row_cases : (m : ℕ) (row : NodeRow) → slice_get changed.nodes m ≡ Some row → ((m ≡ n) × (f old ≡ row)) ⊎ ((m ≢ n) × (slice_get g.nodes m ≡ Some row))
  row_cases m row e = elim (cases_eq m n) [
    | inl same ↦ inl (same, same_Some (f old) row (sym (changed_there f n g.nodes old r.there) ∙ (ap (slice_get changed.nodes) (sym same) ∙ e)))
    | inr other ↦ inr (other, sym (same_elsewhere f n g.nodes m other) ∙ e)
  ]

  row_kept : (m : ℕ) (row : NodeRow) → slice_get g.nodes m ≡ Some row → ((m ≡ n) × (old ≡ row) × (slice_get changed.nodes m ≡ Some (f old))) ⊎ ((m ≢ n) × (slice_get changed.nodes m ≡ Some row))
  row_kept m row e = elim (cases_eq m n) [
    | inl same ↦ inl (same, same_Some old row (sym r.there ∙ (ap (slice_get g.nodes) (sym same) ∙ e)), ap (slice_get changed.nodes) same ∙ changed_there f n g.nodes old r.there)
    | inr other ↦ inr (other, same_elsewhere f n g.nodes m other ∙ e)
  ]

  node_back : (m : ℕ) (x : Node) → is_inner x ≡ false → NodeAt changed m x → NodeAt g m x
  node_back m x outer a = elim (row_cases m a.0 a.1) [
    | inl p ↦ (old, ap (slice_get g.nodes) p.0 ∙ r.there, r.back x outer (ap (λ (row : NodeRow). row.node) p.1 ∙ a.2))
    | inr p ↦ (a.0, p.1, a.2)
  ]

  node_forth : (m : ℕ) (x : Node) → is_inner x ≡ false → NodeAt g m x → NodeAt changed m x
  node_forth m x outer a = elim (row_kept m a.0 a.1) [
    | inl p ↦ (f old, p.2, r.forth x outer (ap (λ (row : NodeRow). row.node) p.1 ∙ a.2))
    | inr p ↦ (a.0, p.1, a.2)
  ]

  grown : Extends g changed
  grown = record {
    nodes = λ m row e. elim (row_kept m row e) [
      | inl p ↦ (f old, p.2, r.width ∙ ap (λ (row' : NodeRow). row'.width) p.1)
      | inr p ↦ (row, p.1, refl)
    ];
    memories = λ m mem e. (mem, e, refl);
    instances = λ i it e. (it, e, refl);
    inputs = λ k p e. e;
  }

  lawful_changed : IsLawful g → IsLawful changed
  lawful_changed l = record {
    ports = l.ports;
    nodes = λ m row e. elim (row_cases m row e) [
      | inl p ↦ (let was : _ = l.nodes n old r.there in
          subst (λ (row' : NodeRow). IsWidth row'.width × IsLawfulNode changed row'.width row'.node) p.1 (subst IsWidth (sym r.width) was.0, lawful_node g changed grown (f old).width (f old).node r.node))
      | inr p ↦ (let was : _ = l.nodes m row p.1 in (was.0, lawful_node g changed grown row.width row.node was.1))
    ];
    memories = λ m k. lawful_memory g changed grown m (l.memories m k);
    instances = λ i k. lawful_instance g changed grown i (l.instances i k);
    outputs = have_widths g changed grown g.outputs _ l.outputs;
    wires = λ id k. (let was : _ = l.wires id k in elim (row_kept id.0 was.0 was.2) [
      | inl p ↦ (let now : _ = r.output_label id k p.0 in (f old, now.0, p.2, now.1, now.2))
      | inr p ↦ (was.0, was.1, p.1, was.3, was.4)
    ]);
    own_wire = l.own_wire;
    inputs = λ k b. (let was : _ = l.inputs k b in (was.0, node_forth was.0 (Input k) refl was.1));
    one_input = λ m m' k a b. l.one_input m m' k (node_back m (Input k) refl a) (node_back m' (Input k) refl b);
    no_label = λ m k row e q. elim (row_cases m row e) [
      | inl p ↦ ap (λ (row' : NodeRow). row'.label) (sym p.1) ∙ r.input_label k (ap (λ (row' : NodeRow). row'.node) p.1 ∙ q)
      | inr p ↦ l.no_label m k row p.1 q
    ];
    one_output = λ m m' k i a b. l.one_output m m' k i (node_back m (InstOut i k) refl a) (node_back m' (InstOut i k) refl b);
    few = (let many : _ = length-change_at f n g.nodes in let few : _ = l.few.0 in omega arith, l.few.1, l.few.2);
  }

  kept_changed : (weight : ℕ) (marks : List Bool) (firsts : List ℕ) → IsKept g weight marks firsts → IsKept changed weight marks firsts
  kept_changed weight marks firsts kept =
      let many : _ = length-change_at f n g.nodes in
      record {
        lawful = lawful_changed kept.lawful;
        total = (let e : _ = sum_by-change_at node_weight f n g.nodes old r.there in let same : _ = r.weight in let t : _ = kept.total in omega arith);
        marked = (let m : _ = kept.marked in omega arith);
        wires = λ m b. kept.wires m (omega arith);
        counted = kept.counted;
        first_nodes = λ i it e. (let was : _ = kept.first_nodes i it e in (was.0, was.1, λ k b. node_forth _ _ refl (was.2 k b)));
        few_ports = (let p : _ = kept.few_ports in omega arith);
      }

pub kept_row : (g : Graph) (n : ℕ) (f : NodeRow → NodeRow) (old new : NodeRow) (rows : List NodeRow) (weight : ℕ) (marks : List Bool) (firsts : List ℕ)
    → IsKept g weight marks firsts → Replaces g n old (f old) → new ≡ f old → rows ≡ slice_set g.nodes n new → IsKept (record g { nodes = rows }) weight marks firsts
kept_row g n f old new rows weight marks firsts kept r is e =
    let there : rows ≡ change_at f n g.nodes = e ∙ (ap (slice_set g.nodes n) is ∙ set_changes f n g.nodes old r.there) in
    subst (λ rows'. IsKept (record g { nodes = rows' }) weight marks firsts) (sym there) (kept_changed g n f old r weight marks firsts kept)
