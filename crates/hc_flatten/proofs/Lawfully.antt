-- The graph that is laid is lawful.
use Rattle.std.proofs.Common.{◌≡◌, ℕ, ◌+◌, ◌≤◌, ◌⊎◌, inl, inr, Bool, true, false, List, [], ◌∷◌, length, refl, sym, ◌∙◌, ap, subst, arith}
use Rattle.std.proofs.lemmas.List.{length-map}
use Rattle.std.proofs.lemmas.Option.{slice_get-map, slice_get_within}
use Rattle.std.specs.Prelude.{slice_get, Option, Some, None, option_map}
use Rattle.hc_signal.specs.Member.{Has}
use Rattle.hc_signal.specs.declared.signal.InstId.{InstId}
use Rattle.hc_signal.specs.declared.signal.NodeId.{NodeId}
use Rattle.hc_signal.specs.declared.signal.NodeRow.{NodeRow}
use Rattle.hc_signal.specs.declared.signal.Node.{Node}
use Rattle.hc_signal.specs.declared.signal.Node.TheVariants.{Input, Wire, Const, Two, Not, Mux, Cat, Select, Reg, Read, InstOut, Op}
use Rattle.hc_signal.specs.declared.signal.Memory.{Memory}
use Rattle.hc_bits.specs.BitVector.{IsWidth}
use Rattle.hc_signal.specs.Graph.{Graph}
use Rattle.hc_signal.specs.Lawful.{IsLawful, IsLawfulNode, IsLawfulMemory, HasWidth, HaveWidthsOf, NodeAt}
use Rattle.hc_signal.specs.Renumber.{Renumbering, id_by, node_by, row_by, memory_by}
use Rattle.hc_signal.specs.Tree.{Tree, graph}
use Rattle.hc_signal.specs.Occurrences.{graph_at, is_port_alias}
use Rattle.hc_walk.proofs.Members.{has_slice}
use Rattle.hc_canon.proofs.LaidOut.{has_index}
use Rattle.hc_dbstate.proofs.Triples.{some_once}
use Rattle.hc_flatten.specs.Sizes.{nodes_in, memories_in}
use Rattle.hc_flatten.specs.Flattened.{passes_on, unread, flat_row, own_nodes, own_memories, flat_graph, top}
use Rattle.hc_flatten.proofs.Blocks.{place_at, IsThere, IsFrom, laid_from, nodes_are_laid, memories_are_laid}
use Rattle.hc_flatten.proofs.Good.{IsGood}
use Rattle.hc_flatten.proofs.Numbers.{numbers_at, flat_number, memory_number, passed_same}
use Rattle.hc_flatten.proofs.Flat.{row_of_flat, memory_laid, kept_row, output_node, input_node, top_outputs}
use Rattle.hc_flatten.proofs.Passing.{alias_kind}
use Rattle.hc_flatten.proofs.Settled.{law, inner_output, outer_input}
use Rattle.hc_flatten.proofs.Transfer.{node_to, memory_to, widths_to}

was_input : (r : Renumbering) (x : Node) (p : ℕ) → node_by r x ≡ Input p → x ≡ Input p
was_input r (Input k) p e = e
was_input r (Wire d) p e = cc
was_input r (Const v) p e = cc
was_input r (Two op x y) p e = cc
was_input r (Not x) p e = cc
was_input r (Mux x y) p e = cc
was_input r (Cat x) p e = cc
was_input r (Select x hi lo) p e = cc
was_input r (Reg x y z v) p e = cc
was_input r (Read m x) p e = cc
was_input r (InstOut j k) p e = cc
was_input r (Op k x) p e = cc

was_output : (r : Renumbering) (path : List ℕ) (x : Node) (i : InstId) (p : ℕ) → is_port_alias path x ≡ false → node_by r x ≡ InstOut i p → ⊥
was_output r path (Input k) i p a e = cc
was_output r path (Wire d) i p a e = cc
was_output r path (Const v) i p a e = cc
was_output r path (Two op x y) i p a e = cc
was_output r path (Not x) i p a e = cc
was_output r path (Mux x y) i p a e = cc
was_output r path (Cat x) i p a e = cc
was_output r path (Select x hi lo) i p a e = cc
was_output r path (Reg x y z v) i p a e = cc
was_output r path (Read m x) i p a e = cc
was_output r path (InstOut j k) i p a e = cc
was_output r path (Op k x) i p a e = cc

some_of : {X Y : Type 0} (f : X → Y) (o : Option X) (y : Y) → option_map f o ≡ Some y → (x : X) × (o ≡ Some x) × (f x ≡ y)
some_of f None y e = cc
some_of f (Some x) y e = (x, refl, some_once e)

module _ (t : Tree) (w : IsGood t) where
  abbrev flat : Graph
  flat = flat_graph t

  abbrev new : List ℕ → Renumbering
  new path = numbers_at t path

  kept_width : (path : List ℕ) (n v : ℕ) (row : NodeRow) → IsThere t path → slice_get (graph_at t path).nodes n ≡ Some row → is_port_alias path row.node ≡ false
      → row.width ≡ v → HasWidth flat (id_by (new path) (record { 0 = n })) v
  kept_width path n v row r e a q = (row_by (new path) row, row_of_flat t w path n row r e a, q)

  output_width : (path : List ℕ) (n v : ℕ) (row : NodeRow) (i : InstId) (port : ℕ) → IsThere t path → slice_get (graph_at t path).nodes n ≡ Some row
      → row.node ≡ InstOut i port → row.width ≡ v → HasWidth flat (id_by (new path) (record { 0 = n })) v
  output_width path n v row i port r e q u =
      let o : _ = inner_output t w path n row i port r e q in
      let x : (inner : NodeRow) × (driver : Option NodeId) × (slice_get (graph_at t (i.0 ∷ path)).nodes o.1.0.0 ≡ Some inner) × (inner.node ≡ Wire driver)
      × (inner.label ≡ None) = (law t w (i.0 ∷ path) o.0).wires o.1.0 (has_slice (graph_at t (i.0 ∷ path)).outputs port o.1.0 o.1.1) in
      let same : x.0.width ≡ row.width = ap (λ (y : NodeRow). y.width) (some_once (sym x.2 ∙ o.1.2.1)) ∙ o.1.2.2 in
      subst (λ k. HasWidth flat (record { 0 = k }) v) (sym (output_node t w path n i.0 port o.1.0.0 o.0 (row, e, q) o.1.1))
      (kept_width (i.0 ∷ path) o.1.0.0 v x.0 o.0 x.2 (ap (is_port_alias (i.0 ∷ path)) x.3) (same ∙ u))

  input_width : (j : ℕ) (path : List ℕ) (n v : ℕ) (row : NodeRow) (port : ℕ) → IsThere t (j ∷ path) → slice_get (graph_at t (j ∷ path)).nodes n ≡ Some row → row.node ≡ Input port → row.width ≡ v
      → ((id : NodeId) (v : ℕ) → HasWidth (graph_at t path) id v → HasWidth flat (id_by (new path) id) v) → HasWidth flat (id_by (new (j ∷ path)) (record { 0 = n })) v
  input_width j path n v row port r e q u rec =
      let o : _ = outer_input t w j path n row port r e q in
      subst (λ k. HasWidth flat (record { 0 = k }) v) (sym (input_node t w path n j port o.0.0 (row, e, q) o.1)) (rec o.0 v (subst (HasWidth (graph_at t path) o.0) u o.2))

  width_at : (path : List ℕ) → IsThere t path → (id : NodeId) (v : ℕ) → HasWidth (graph_at t path) id v → HasWidth flat (id_by (new path) id) v
  width_at [] r id v h =
      elim (alias_kind [] h.0.node) [
        | inl a ↦ kept_width [] id.0 v h.0 r h.1 a h.2
        | inr (inl b) ↦ output_width [] id.0 v h.0 b.0 b.1 r h.1 b.2 h.2
        | inr (inr c) ↦ (let z : [] ≡ c.0 ∷ c.1 = c.3 in cc)
      ]
  width_at (j ∷ path) r id v h =
      elim (alias_kind (j ∷ path) h.0.node) [
        | inl a ↦ kept_width (j ∷ path) id.0 v h.0 r h.1 a h.2
        | inr (inl b) ↦ output_width (j ∷ path) id.0 v h.0 b.0 b.1 r h.1 b.2 h.2
        | inr (inr c) ↦ input_width j path id.0 v h.0 c.2 r h.1 c.4 h.2 (width_at path r.0)
      ]

  memory_at : (path : List ℕ) → IsThere t path → (m : ℕ) (memory : Memory) → slice_get (graph_at t path).memories m ≡ Some memory
      → slice_get flat.memories ((new path).mem m) ≡ Some (memory_by (new path) memory)
  memory_at path r m memory e = ap (slice_get flat.memories) (memory_number t path m (slice_get_within _ m memory e)) ∙ memory_laid t path m memory r e

  -- the row behind a row of the flat graph
  record IsRow (k : ℕ) (row : NodeRow) : Type 0 where
    pub path : List ℕ
    pub place : ℕ
    pub there : IsThere t path
    pub old : NodeRow
    pub found : slice_get (graph_at t path).nodes place ≡ Some old
    pub is : flat_row (place_at t path) (new path) old ≡ row
    pub number : k ≡ (place_at t path).nodes + place

  row_from : (k : ℕ) (row : NodeRow) → slice_get flat.nodes k ≡ Some row → IsRow k row
  row_from k row e =
      let f : IsFrom (λ path. own_nodes) nodes_in (λ path p g kids. length-map g.nodes _) (λ p. p.nodes) (λ p g kids i. refl) refl refl t k row
      = laid_from (λ path. own_nodes) nodes_in (λ path p g kids. length-map g.nodes _) (λ p. p.nodes) (λ p g kids i. refl) refl refl t k row
      (sym (ap (λ l. slice_get l k) (nodes_are_laid t [] top)) ∙ e) in
      let x : _ = some_of (flat_row (place_at t f.path) (new f.path)) (slice_get (graph_at t f.path).nodes f.place) row
      (sym (slice_get-map (flat_row (place_at t f.path) (new f.path)) (graph_at t f.path).nodes f.place) ∙ f.found) in
      record { path = f.path; place = f.place; there = f.there; old = x.0; found = x.1; is = x.2; number = f.number }

  -- a row that is read
  record IsRead (k : ℕ) (row : NodeRow) : Type 0 where
    pub path : List ℕ
    pub place : ℕ
    pub there : IsThere t path
    pub old : NodeRow
    pub found : slice_get (graph_at t path).nodes place ≡ Some old
    pub kept : is_port_alias path old.node ≡ false
    pub is : row_by (new path) old ≡ row
    pub number : k ≡ (place_at t path).nodes + place

  read_or_not : (k : ℕ) (row : NodeRow) → slice_get flat.nodes k ≡ Some row → IsRead k row ⊎ ((row.node ≡ Wire None) × IsWidth row.width)
  read_or_not k row e = by (passes_on (place_at t x.path).inputs x.old.node) refl
    where
      x : IsRow k row
      x = row_from k row e

      by : (b : Bool) → passes_on (place_at t x.path).inputs x.old.node ≡ b → IsRead k row ⊎ ((row.node ≡ Wire None) × IsWidth row.width)
      by true q = inr (let z : unread x.old ≡ row = sym (kept_row (place_at t x.path) (new x.path) x.old true q) ∙ x.is
          in (sym (ap (λ (y : NodeRow). y.node) z), subst IsWidth (ap (λ (y : NodeRow). y.width) z) ((law t w x.path x.there).nodes x.place x.old x.found).0))
      by false q = inl (record {
        path = x.path;
        place = x.place;
        there = x.there;
        old = x.old;
        found = x.found;
        kept = sym (passed_same t x.path x.old.node) ∙ q;
        is = sym (kept_row (place_at t x.path) (new x.path) x.old false q) ∙ x.is;
        number = x.number;
      })

  read_lawful : (k : ℕ) (row : NodeRow) → IsRead k row → IsWidth row.width × IsLawfulNode flat row.width row.node
  read_lawful k row x =
      subst (λ (y : NodeRow). IsWidth y.width × IsLawfulNode flat y.width y.node) x.is (
        ((law t w x.path x.there).nodes x.place x.old x.found).0,
        node_to (new x.path) (graph_at t x.path) flat (width_at x.path x.there) (memory_at x.path x.there) x.old.width x.old.node (ports x.path x.kept)
            (λ i port q. (let z : true ≡ false = sym (ap (is_port_alias x.path) q) ∙ x.kept in cc)) ((law t w x.path x.there).nodes x.place x.old x.found).1,
      )
    where
      ports : (path : List ℕ) → is_port_alias path x.old.node ≡ false → (port : ℕ) → x.old.node ≡ Input port → (graph_at t path).ports ≡ flat.ports
      ports [] a port q = refl
      ports (i ∷ path) a port q = (let z : true ≡ false = sym (ap (is_port_alias (i ∷ path)) q) ∙ a in cc)

  rows : (k : ℕ) (row : NodeRow) → slice_get flat.nodes k ≡ Some row → IsWidth row.width × IsLawfulNode flat row.width row.node
  rows k row e = elim (read_or_not k row e) [
    | inl x ↦ read_lawful k row x
    | inr x ↦ (x.1, subst (IsLawfulNode flat row.width) (sym x.0) tt)
  ]

  memory_rows : (m : Memory) → Has flat.memories m → IsLawfulMemory flat m
  memory_rows m h =
      let k : (k : ℕ) × (slice_get flat.memories k ≡ Some m) = has_index h in
      let f : IsFrom (λ path. own_memories) memories_in (λ path p g kids. length-map g.memories _) (λ p. p.memories) (λ p g kids i. refl) refl refl t k.0 m
      = laid_from (λ path. own_memories) memories_in (λ path p g kids. length-map g.memories _) (λ p. p.memories) (λ p g kids i. refl) refl refl t k.0 m
      (sym (ap (λ l. slice_get l k.0) (memories_are_laid t [] top)) ∙ k.1) in
      let x : _ = some_of (memory_by (new f.path)) (slice_get (graph_at t f.path).memories f.place) m (sym (slice_get-map (memory_by (new f.path)) (graph_at t f.path).memories f.place) ∙ f.found) in
      subst (IsLawfulMemory flat) x.2 (memory_to (new f.path) (graph_at t f.path) flat (width_at f.path f.there) (memory_at f.path f.there) x.0
      ((law t w f.path f.there).memories x.0 (has_slice (graph_at t f.path).memories f.place x.0 x.1)))

  -- an input of the flat graph is one of the top
  input_row : (k : ℕ) (row : NodeRow) (port : ℕ) → slice_get flat.nodes k ≡ Some row → row.node ≡ Input port
      → (old : NodeRow) × (slice_get (graph t).nodes k ≡ Some old) × (old.node ≡ Input port) × (old.label ≡ row.label)
  input_row k row port e q = elim (read_or_not k row e) [
    | inl x ↦ by x.path x.place x.old x.found x.kept x.is x.number
    | inr x ↦ (let z : Wire None ≡ Input port = sym x.0 ∙ q in cc)
  ]
    where
      by : (path : List ℕ) (n : ℕ) (old : NodeRow) → slice_get (graph_at t path).nodes n ≡ Some old → is_port_alias path old.node ≡ false → row_by (new path) old ≡ row
          → k ≡ (place_at t path).nodes + n → (old : NodeRow) × (slice_get (graph t).nodes k ≡ Some old) × (old.node ≡ Input port) × (old.label ≡ row.label)
      by [] n old f a is m =
          let was : old.node ≡ Input port = was_input (new []) old.node port (ap (λ (y : NodeRow). y.node) is ∙ q) in
          let s : n ≡ k = (let z : k ≡ 0 + n = m in omega (arith, z)) in
          (old, subst (λ j. slice_get (graph t).nodes j ≡ Some old) s f, was, ap (λ (y : NodeRow). y.label) is)
      by (i ∷ path) n old f a is m =
          let was : old.node ≡ Input port = was_input (new (i ∷ path)) old.node port (ap (λ (y : NodeRow). y.node) is ∙ q) in
          (let z : true ≡ false = sym (ap (is_port_alias (i ∷ path)) was) ∙ a in cc)

  was_input_at : (k port : ℕ) → NodeAt flat k (Input port) → NodeAt (graph t) k (Input port)
  was_input_at k port y = (let x : _ = input_row k y.0 port y.1 y.2 in (x.0, x.1, x.2))

  no_output : (k port : ℕ) (i : InstId) → NodeAt flat k (InstOut i port) → ⊥
  no_output k port i y = elim (read_or_not k y.0 y.1) [
    | inl x ↦ was_output (new x.path) x.path x.old.node i port x.kept (ap (λ (z : NodeRow). z.node) x.is ∙ y.2)
    | inr x ↦ (let z : Wire None ≡ InstOut i port = sym x.0 ∙ y.2 in cc)
  ]

  top_number : (n : ℕ) (row : NodeRow) → slice_get (graph t).nodes n ≡ Some row → is_port_alias [] row.node ≡ false → slice_get flat.nodes n ≡ Some (row_by (new []) row)
  top_number n row e a = ap (slice_get flat.nodes) (sym (flat_number t [] n row e a ∙ (let z : 0 + n ≡ n = omega arith in z))) ∙ row_of_flat t w [] n row tt e a

  pub is_lawful : length flat.nodes ≤ 4294967296 → length flat.memories ≤ 4294967296 → IsLawful flat
  is_lawful few_nodes few_memories =
      let l : IsLawful (graph t) = law t w [] tt in
      record {
        ports = l.ports;
        nodes = rows;
        memories = memory_rows;
        instances = λ i h. elim h [ ];
        outputs = subst (λ ids. HaveWidthsOf flat ids flat.ports.outputs) (sym (top_outputs t w)) (widths_to (new []) (graph t) flat (width_at [] tt) (memory_at [] tt) (graph t).outputs _ l.outputs);
        wires = λ id h. (let x : (row : NodeRow) × (driver : Option NodeId) × (slice_get (graph t).nodes id.0 ≡ Some row) × (row.node ≡ Wire driver) × (row.label ≡ None) = l.wires id h in
            (row_by (new []) x.0, option_map (id_by (new [])) x.1, top_number id.0 x.0 x.2 (ap (is_port_alias []) x.3), ap (node_by (new [])) x.3, x.4));
        own_wire = l.own_wire;
        inputs = λ k b. (let x : _ = l.inputs k b in (x.0, (row_by (new []) x.1.0, top_number x.0 x.1.0 x.1.1 (ap (is_port_alias []) x.1.2), ap (node_by (new [])) x.1.2)));
        one_input = λ m n k a b. l.one_input m n k (was_input_at m k a) (was_input_at n k b);
        no_label = λ n k row e q. (let x : _ = input_row n row k e q in sym x.3 ∙ l.no_label n k x.0 x.1 x.2);
        one_output = λ m n k i a b. absurd (no_output m k i a);
        few = (few_nodes, few_memories, omega arith);
      }
