-- A graph with a changed node is formed.
use Rattle.std.proofs.Common.{◌≡◌, ◌≢◌, ℕ, ◌⊎◌, true, false, ◌==◌, refl, sym, subst, ◌∙◌, ap, inl, inr}
use Rattle.std.specs.Prelude.{slice_get, Some, None}
use Rattle.std.proofs.lemmas.Option.{same_Some}
use Rattle.std.proofs.lemmas.Bool.{cases_eq, eq-eqb, true≢false}
use Rattle.hc_fault.specs.declared.name.Name.{Name}
use Rattle.hc_bits.specs.BitVector.{IsWidth}
use Rattle.hc_signal.specs.Member.{Has}
use Rattle.hc_signal.specs.declared.signal.Node.{Node}
use Rattle.hc_signal.specs.declared.signal.Node.TheVariants.{Input, Wire, Const, Two, Not, Mux, Cat, Select, Reg, Read, InstOut, Op}
use Rattle.hc_signal.specs.declared.signal.NodeId.{NodeId}
use Rattle.hc_signal.specs.declared.signal.NodeRow.{NodeRow}
use Rattle.hc_signal.specs.Graph.{Graph}
use Rattle.hc_signal.specs.Lawful.{IsLawfulNode, NodeAt, HasWidth}
use Rattle.hc_signal.specs.Builds.{IsNode, is_inner, is_input, is_output, is_wire, driven_from, change_at, labelled_row, width_at}
use Rattle.hc_unfold.specs.Formed.{IsFormed}
use Rattle.hc_unfold.proofs.RowPlaces.{changed_there, same_elsewhere, some_passes}
use Rattle.hc_unfold.proofs.Extended.{Extends, lawful_node, lawful_memory, lawful_instance, have_widths}
use Rattle.hc_unfold.proofs.Follows.{has_its_width}

-- what a new row at the place of an old one has to keep
pub record Replaces (g : Graph) (n : ℕ) (old new : NodeRow) : Type 0 where
  pub there : slice_get g.nodes n ≡ Some old
  pub width : new.width ≡ old.width
  pub node : IsLawfulNode g new.width new.node
  -- it stands for the same port
  pub back : (x : Node) → is_inner x ≡ false → new.node ≡ x → old.node ≡ x
  pub forth : (x : Node) → is_inner x ≡ false → old.node ≡ x → new.node ≡ x
  pub input_label : (k : ℕ) → new.node ≡ Input k → new.label ≡ None
  pub output_label : (id : NodeId) → Has g.outputs id → id.0 ≡ n → (driver : _) × (new.node ≡ Wire driver) × (new.label ≡ None)

module _ (g : Graph) (n : ℕ) (f : NodeRow → NodeRow) (old : NodeRow) (r : Replaces g n old (f old)) where
  abbrev changed : Graph
  changed = record g { nodes = change_at f n g.nodes }

  -- a row of the changed graph: the new one, or as before
  row_cases : (m : ℕ) (row : NodeRow) → slice_get changed.nodes m ≡ Some row → ((m ≡ n) × (f old ≡ row)) ⊎ ((m ≢ n) × (slice_get g.nodes m ≡ Some row))
  row_cases m row e = elim (cases_eq m n) [
    | inl same ↦ inl (same, same_Some (f old) row (sym (changed_there f n g.nodes old r.there) ∙ (ap (slice_get changed.nodes) (sym same) ∙ e)))
    | inr other ↦ inr (other, sym (same_elsewhere f n g.nodes m other) ∙ e)
  ]

  row_kept : (m : ℕ) (row : NodeRow) → slice_get g.nodes m ≡ Some row → ((m ≡ n) × (old ≡ row) × (slice_get changed.nodes m ≡ Some (f old))) ⊎ ((m ≢ n) × (slice_get changed.nodes m ≡ Some row))
  row_kept m row e = elim (cases_eq m n) [
    | inl same ↦ inl (same, same_Some old row (sym r.there ∙ (ap (slice_get g.nodes) (sym same) ∙ e)), ap (slice_get changed.nodes) same ∙ changed_there f n g.nodes old r.there)
    | inr other ↦ inr (other, same_elsewhere f n g.nodes m other ∙ e)
  ]

  node_back : (m : ℕ) (x : Node) → is_inner x ≡ false → NodeAt changed m x → NodeAt g m x
  node_back m x outer a = elim (row_cases m a.0 a.1) [
    | inl p ↦ (old, ap (slice_get g.nodes) p.0 ∙ r.there, r.back x outer (ap (λ (row : NodeRow). row.node) p.1 ∙ a.2))
    | inr p ↦ (a.0, p.1, a.2)
  ]

  node_forth : (m : ℕ) (x : Node) → is_inner x ≡ false → NodeAt g m x → NodeAt changed m x
  node_forth m x outer a = elim (row_kept m a.0 a.1) [
    | inl p ↦ (f old, p.2, r.forth x outer (ap (λ (row : NodeRow). row.node) p.1 ∙ a.2))
    | inr p ↦ (a.0, p.1, a.2)
  ]

  grown : Extends g changed
  grown = record {
    nodes = λ m row e. elim (row_kept m row e) [
      | inl p ↦ (f old, p.2, r.width ∙ ap (λ (row' : NodeRow). row'.width) p.1)
      | inr p ↦ (row, p.1, refl)
    ];
    memories = λ m mem e. (mem, e, refl);
    instances = λ i it e. (it, e, refl);
    inputs = λ k p e. e;
  }

  pub formed_changed : IsFormed g → IsFormed changed
  formed_changed l = record {
    ports = l.ports;
    nodes = λ m row e. elim (row_cases m row e) [
      | inl p ↦ (let was : _ = l.nodes n old r.there in
          subst (λ (row' : NodeRow). IsWidth row'.width × IsLawfulNode changed row'.width row'.node) p.1
          (subst IsWidth (sym r.width) was.0, lawful_node g changed grown (f old).width (f old).node r.node))
      | inr p ↦ (let was : _ = l.nodes m row p.1 in (was.0, lawful_node g changed grown row.width row.node was.1))
    ];
    memories = λ m k. lawful_memory g changed grown m (l.memories m k);
    instances = λ i k. lawful_instance g changed grown i (l.instances i k);
    outputs = have_widths g changed grown g.outputs _ l.outputs;
    wires = λ id k. (let was : _ = l.wires id k in elim (row_kept id.0 was.0 was.2) [
      | inl p ↦ (let now : _ = r.output_label id k p.0 in (f old, now.0, p.2, now.1, now.2))
      | inr p ↦ (was.0, was.1, p.1, was.3, was.4)
    ]);
    own_wire = l.own_wire;
    inputs = λ k b. (let was : _ = l.inputs k b in (was.0, node_forth was.0 (Input k) refl was.1));
    one_input = λ m m' k a b. l.one_input m m' k (node_back m (Input k) refl a) (node_back m' (Input k) refl b);
    no_label = λ m k row e q. elim (row_cases m row e) [
      | inl p ↦ ap (λ (row' : NodeRow). row'.label) (sym p.1) ∙ r.input_label k (ap (λ (row' : NodeRow). row'.node) p.1 ∙ q)
      | inr p ↦ l.no_label m k row p.1 q
    ];
    one_output = λ m m' k i a b. l.one_output m m' k i (node_back m (InstOut i k) refl a) (node_back m' (InstOut i k) refl b);
  }

wire_back : (x y : Node) → is_wire x ≡ true → is_inner y ≡ false → x ≡ y → ⊥
wire_back (Wire d) y w outer e = let no : true ≡ is_inner y = ap is_inner e in cc
wire_back (Input a) y w outer e = cc
wire_back (Const a) y w outer e = cc
wire_back (Two op a b) y w outer e = cc
wire_back (Not a) y w outer e = cc
wire_back (Mux a b) y w outer e = cc
wire_back (Cat a) y w outer e = cc
wire_back (Select a b d) y w outer e = cc
wire_back (Reg a b d f) y w outer e = cc
wire_back (Read a b) y w outer e = cc
wire_back (InstOut a b) y w outer e = cc
wire_back (Op a b) y w outer e = cc

module _ (g : Graph) (wire from : NodeId) (row : NodeRow) (l : IsFormed g) (there : slice_get g.nodes wire.0 ≡ Some row) (w : is_wire row.node ≡ true) (node : IsNode g from)
    (same : row.width ≡ width_at g from) where
  abbrev made : NodeRow
  made = driven_from from row

  pub drive_replaces : Replaces g wire.0 row made
  drive_replaces = record {
    there = there;
    width = refl;
    node = subst (λ n. HasWidth g from n) (sym same) (has_its_width g from node);
    back = λ x outer e. absurd (wire_back made.node x refl outer e);
    forth = λ x outer e. absurd (wire_back row.node x w outer e);
    input_label = λ k e. cc;
    output_label = λ id k at. (let was : _ = l.wires id k in
        let e : was.0 ≡ row = same_Some was.0 row (sym was.2 ∙ (ap (slice_get g.nodes) at ∙ there)) in
        (Some from, refl, ap (λ (r : NodeRow). r.label) (sym e) ∙ was.4));
  }

-- a node that stands for no port may take a label
pub labelled_replaces : (g : Graph) (id : NodeId) (label : Name) (row : NodeRow) → IsFormed g → slice_get g.nodes id.0 ≡ Some row → is_input row.node ≡ false
    → is_output g id.0 ≡ false → Replaces g id.0 row (labelled_row label row)
labelled_replaces g id label row l there no_input no_output = record {
  there = there;
  width = refl;
  node = (l.nodes id.0 row there).1;
  back = λ x outer e. e;
  forth = λ x outer e. e;
  input_label = λ k e. absurd (true≢false (sym (ap is_input e) ∙ no_input));
  output_label = λ o k at. (let yes : is_output g id.0 ≡ true = some_passes (λ (p : NodeId). p.0 == id.0) g.outputs o k (eq-eqb o.0 id.0 at) in absurd (true≢false (sym yes ∙ no_output)));
}
