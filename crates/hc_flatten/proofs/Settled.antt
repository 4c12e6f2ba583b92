-- What a reached node stands for.
use Rattle.std.proofs.Common.{◌≡◌, ℕ, zero, suc, inl, inr, false, List, [], ◌∷◌, map, refl, sym, ◌∙◌, ap, subst}
use Rattle.std.proofs.lemmas.Option.{slice_get-map, slice_get_within}
use Rattle.std.specs.Prelude.{slice_get, Option, Some, None, option_map}
use Rattle.hc_signal.specs.declared.signal.Port.{Port}
use Rattle.hc_signal.specs.declared.signal.Ports.{Ports}
use Rattle.hc_signal.specs.declared.signal.NodeId.{NodeId}
use Rattle.hc_signal.specs.declared.signal.InstId.{InstId}
use Rattle.hc_signal.specs.declared.signal.NodeRow.{NodeRow}
use Rattle.hc_signal.specs.declared.signal.Node.TheVariants.{Input, Wire, InstOut}
use Rattle.hc_signal.specs.declared.signal.Instance.{Instance}
use Rattle.hc_signal.specs.Graph.{Graph, node}
use Rattle.hc_signal.specs.Lawful.{IsLawful, IsLawfulNode, HasWidth, HaveWidths, HaveWidthsOf}
use Rattle.hc_signal.specs.Tree.{Tree, kid}
use Rattle.hc_signal.specs.Occurrences as step
use Rattle.hc_signal.specs.Occurrences.{Occurrence, tree_at, graph_at, NodeIs, IsFlatNode, IsReachedPath, is_port_alias, connection, connection_of, CombPath, here, on}
use Rattle.hc_signal.specs.FlatGraph as flat
use Rattle.hc_signal.specs.FlatGraph.{FlatReached, IsFlat}
use Rattle.hc_walk.proofs.InRange.{HasRow, reached_row}
use Rattle.hc_walk.proofs.Members.{has_slice}
use Rattle.hc_dbstate.proofs.Triples.{some_at, some_once}
use Rattle.hc_flatten.proofs.Blocks.{IsThere}
use Rattle.hc_flatten.proofs.Good.{IsGood, lawful_of, good_at, good_kid, there}
use Rattle.hc_flatten.proofs.Reaches.{flat_reached}
use Rattle.hc_flatten.proofs.Passing.{alias_kind}

widths_at : (g : Graph) (ids : List NodeId) (ws : List ℕ) → HaveWidths g ids ws → (k w : ℕ) → slice_get ws k ≡ Some w → (id : NodeId) × (slice_get ids k ≡ Some id) × HasWidth g id w
widths_at g [] [] h k w e = cc
widths_at g [] (v ∷ ws) h k w e = absurd h
widths_at g (id ∷ ids) [] h k w e = absurd h
widths_at g (id ∷ ids) (v ∷ ws) h zero w e = (id, refl, subst (HasWidth g id) (some_once e) h.0)
widths_at g (id ∷ ids) (v ∷ ws) h (suc k) w e = widths_at g ids ws h.1 k w e

-- the node at a port
pub port_node : (g : Graph) (ids : List NodeId) (ports : List Port) → HaveWidthsOf g ids ports → (k : ℕ) (p : Port) → slice_get ports k ≡ Some p
    → (id : NodeId) × (slice_get ids k ≡ Some id) × HasWidth g id p.width
port_node g ids ports h k p e = widths_at g ids (map (λ (q : Port). q.width) ports) h k p.width (slice_get-map (λ (q : Port). q.width) ports k ∙ ap (option_map (λ (q : Port). q.width)) e)

module _ (t : Tree) (w : IsGood t) where
  abbrev pub law : (path : List ℕ) → IsThere t path → IsLawful (graph_at t path)
  law path r = lawful_of (tree_at t path) (good_at t w path r)

  -- the wire behind an output of an instance
  pub inner_output : (path : List ℕ) (n : ℕ) (row : NodeRow) (i : InstId) (port : ℕ) → IsThere t path → slice_get (graph_at t path).nodes n ≡ Some row → row.node ≡ InstOut i port
      → IsThere t (i.0 ∷ path) × ((id : NodeId) × (slice_get (graph_at t (i.0 ∷ path)).outputs port ≡ Some id) × HasWidth (graph_at t (i.0 ∷ path)) id row.width)
  inner_output path n row i port r e q =
      let u : IsLawfulNode (graph_at t path) row.width (InstOut i port) = subst (IsLawfulNode (graph_at t path) row.width) q ((law path r).nodes n row e).1 in
      let k : _ = good_kid (tree_at t path) (good_at t w path r) i.0 u.0 u.2 in
      let l : IsLawful (graph_at t (i.0 ∷ path)) = lawful_of (kid (tree_at t path) i.0) k.1 in
      let p : _ = port_node (graph_at t (i.0 ∷ path)) (graph_at t (i.0 ∷ path)).outputs (graph_at t (i.0 ∷ path)).ports.outputs l.outputs port u.1
      (subst (λ (ports : Ports). slice_get ports.outputs port ≡ Some u.1) (sym k.0) u.3) in
      ((r, slice_get_within (graph_at t path).instances i.0 u.0 u.2), (p.0, p.1, subst (HasWidth (graph_at t (i.0 ∷ path)) p.0) u.4 p.2))

  -- the connection behind an input of an instance
  pub outer_input : (j : ℕ) (path : List ℕ) (n : ℕ) (row : NodeRow) (port : ℕ) → IsThere t (j ∷ path) → slice_get (graph_at t (j ∷ path)).nodes n ≡ Some row → row.node ≡ Input port
      → (id : NodeId) × (connection (graph_at t path) j port ≡ Some id) × HasWidth (graph_at t path) id row.width
  outer_input j path n row port r e q =
      let u : IsLawfulNode (graph_at t (j ∷ path)) row.width (Input port) = subst (IsLawfulNode (graph_at t (j ∷ path)) row.width) q ((law (j ∷ path) r).nodes n row e).1 in
      let it : (it : Instance) × (slice_get (graph_at t path).instances j ≡ Some it) = some_at (graph_at t path).instances j r.1 in
      let k : _ = good_kid (tree_at t path) (good_at t w path r.0) j it.0 it.1 in
      let c : HaveWidthsOf (graph_at t path) it.0.conns it.0.ports.inputs = ((law path r.0).instances it.0 (has_slice (graph_at t path).instances j it.0 it.1)).conns in
      let p : _ = port_node (graph_at t path) it.0.conns it.0.ports.inputs c port u.0 (subst (λ (ports : Ports). slice_get ports.inputs port ≡ Some u.0) k.0 u.1) in
      (p.0, ap (λ o. connection_of o port) it.1 ∙ p.1, subst (HasWidth (graph_at t path) p.0) u.2 p.2)

  module _ (g : Graph) (f : IsFlat t g) where
    pub record IsSettled (path : List ℕ) (n : ℕ) : Type 0 where
      pub spot : Occurrence
      pub reached : FlatReached t spot.path (node spot.node)
      pub flat : IsFlatNode t spot
      pub number : f.at.node spot.path spot.node ≡ f.at.node path n
      pub passed : CombPath t path n spot.path spot.node

    stays : (path : List ℕ) (n : ℕ) (row : NodeRow) → FlatReached t path (node n) → slice_get (graph_at t path).nodes n ≡ Some row → is_port_alias path row.node ≡ false → IsSettled path n
    stays path n row r e a = record { spot = record { path = path; node = n }; reached = r; flat = (flat_reached t r, (row, e, a)); number = refl; passed = here }

    comes_out : (path : List ℕ) (n : ℕ) (row : NodeRow) (i : InstId) (port : ℕ) → FlatReached t path (node n) → slice_get (graph_at t path).nodes n ≡ Some row
        → row.node ≡ InstOut i port → IsSettled path n
    comes_out path n row i port r e q =
        let a : IsThere t path = there t w path (flat_reached t r).0 in
        let o : _ = inner_output path n row i port a e q in
        let x : (inner : NodeRow) × (driver : Option NodeId) × (slice_get (graph_at t (i.0 ∷ path)).nodes o.1.0.0 ≡ Some inner) × (inner.node ≡ Wire driver)
        × (inner.label ≡ None) = (law (i.0 ∷ path) o.0).wires o.1.0 (has_slice (graph_at t (i.0 ∷ path)).outputs port o.1.0 o.1.1) in
        let d : FlatReached t (i.0 ∷ path) (node o.1.0.0) = flat.down port r (row, e, q) o.1.1 in
        record {
          spot = record { path = i.0 ∷ path; node = o.1.0.0 };
          reached = d;
          flat = (flat_reached t d, (x.0, x.2, ap (is_port_alias (i.0 ∷ path)) x.3));
          number = sym (f.down path n i.0 port o.1.0.0 r (row, e, q) o.1.1);
          passed = on (step.down port (row, e, q) o.1.1) here;
        }

    goes_up : (j : ℕ) (path : List ℕ) (n : ℕ) (row : NodeRow) (port : ℕ) → FlatReached t (j ∷ path) (node n) → slice_get (graph_at t (j ∷ path)).nodes n ≡ Some row
        → row.node ≡ Input port → ((m : ℕ) → FlatReached t path (node m) → IsSettled path m) → IsSettled (j ∷ path) n
    goes_up j path n row port r e q rec =
        let a : IsThere t (j ∷ path) = there t w (j ∷ path) (flat_reached t r).0 in
        let o : _ = outer_input j path n row port a e q in
        let s : IsSettled path o.0.0 = rec o.0.0 (flat.up port r (row, e, q) o.1) in
        record {
          spot = s.spot;
          reached = s.reached;
          flat = s.flat;
          number = s.number ∙ sym (f.up path n j port o.0.0 r (row, e, q) o.1);
          passed = on (step.up port (row, e, q) o.1) s.passed;
        }

    row_reached : (path : List ℕ) (n : ℕ) → FlatReached t path (node n) → HasRow (graph_at t path) (node n)
    row_reached path n r = (let x : _ = flat_reached t r in reached_row (graph_at t path) (law path (there t w path x.0)) x.1)

    pub settle : (path : List ℕ) (n : ℕ) → FlatReached t path (node n) → IsSettled path n
    settle [] n r =
        let x : HasRow (graph_at t []) (node n) = row_reached [] n r in
        elim (alias_kind [] x.0.node) [
          | inl a ↦ stays [] n x.0 r x.1 a
          | inr (inl b) ↦ comes_out [] n x.0 b.0 b.1 r x.1 b.2
          | inr (inr c) ↦ (let z : [] ≡ c.0 ∷ c.1 = c.3 in cc)
        ]
    settle (j ∷ path) n r =
        let x : HasRow (graph_at t (j ∷ path)) (node n) = row_reached (j ∷ path) n r in
        elim (alias_kind (j ∷ path) x.0.node) [
          | inl a ↦ stays (j ∷ path) n x.0 r x.1 a
          | inr (inl b) ↦ comes_out (j ∷ path) n x.0 b.0 b.1 r x.1 b.2
          | inr (inr c) ↦ goes_up j path n x.0 c.2 r x.1 c.4 (settle path)
        ]
