-- What a node that is reached through instances stands for: a flat node, which has its number in each flat graph.
use Rattle.std.proofs.Common.{◌≡◌, ℕ, zero, suc, ◌⊎◌, inl, inr, false, List, [], ◌∷◌, refl, sym, subst, ◌∙◌, ap}
use Rattle.std.specs.Prelude.{slice_get, Option, Some, None}
use Rattle.hc_walk.proofs.Members.{has_slice}
use Rattle.hc_walk.proofs.InRange.{HasRow, reached_row}
use Rattle.hc_signal.specs.declared.signal.Port.{Port}
use Rattle.hc_signal.specs.declared.signal.Ports.{Ports}
use Rattle.hc_signal.specs.declared.signal.NodeId.{NodeId}
use Rattle.hc_signal.specs.declared.signal.InstId.{InstId}
use Rattle.hc_signal.specs.declared.signal.NodeRow.{NodeRow}
use Rattle.hc_signal.specs.declared.signal.Instance.{Instance}
use Rattle.hc_signal.specs.declared.signal.Node.{Node}
use Rattle.hc_signal.specs.declared.signal.Node.TheVariants.{Input, Wire, Const, Two, Not, Mux, Cat, Select, Reg, Read, InstOut, Op}
use Rattle.hc_signal.specs.Graph.{Graph, Vertex, node, mem, inst, Reached, output, further}
use Rattle.hc_signal.specs.Lawful.{IsLawful, IsLawfulNode, HaveWidthsOf}
use Rattle.hc_signal.specs.Tree.{Tree, none, tree, graph, kid, IsWhole}
use Rattle.hc_signal.specs.Occurrences.{Occurrence, tree_at, graph_at, IsReachedPath, IsFlatNode, is_port_alias, connection, connection_of}
use Rattle.hc_signal.specs.Occurrences as step
use Rattle.hc_signal.specs.FlatGraph.{FlatReached, IsFlat}
use Rattle.hc_signal.specs.FlatGraph as flat
use Rattle.hc_paths.proofs.Composed.{step_reached}
use Rattle.hc_paths.proofs.FlatWalks.{whole_at}

-- What is reached through instances is reached in its graph, on a reached path.
pub flat_at : (t : Tree) {p : List ℕ} {x : Vertex} → FlatReached t p x → IsReachedPath t p × Reached (graph_at t p) x
flat_at t (flat.output c) = (tt, output _ c)
flat_at t (flat.to_node {p = q} {n = n} r c) = ((flat_at t r).0, further q (node n) (flat_at t r).1 c)
flat_at t (flat.to_mem {p = q} {m = m} r c) = ((flat_at t r).0, further q (mem m) (flat_at t r).1 c)
flat_at t (flat.down port r y o) = step_reached t (step.down port y o) (flat_at t r)
flat_at t (flat.up port r y o) = step_reached t (step.up port y o) (flat_at t r)

lawful : (s : Tree) → IsWhole s → IsLawful (graph s)
lawful none w = absurd w
lawful (tree g kids) w = w.0

whole_kid : (s : Tree) → IsWhole s → (i : ℕ) (it : Instance) → slice_get (graph s).instances i ≡ Some it → ((graph (kid s i)).ports ≡ it.ports) × IsWhole (kid s i)
whole_kid none w i it e = absurd w
whole_kid (tree g kids) w i it e = w.1 i it e

-- each port has a node
node_of_port : (g : Graph) (ids : List NodeId) (ports : List Port) → HaveWidthsOf g ids ports → (k : ℕ) (p : Port) → slice_get ports k ≡ Some p → (id : NodeId) × (slice_get ids k ≡ Some id)
node_of_port g ids [] h k p e = cc
node_of_port g [] (q ∷ ports) h k p e = absurd h
node_of_port g (id ∷ ids) (q ∷ ports) h zero p e = (id, refl)
node_of_port g (id ∷ ids) (q ∷ ports) h (suc k) p e = node_of_port g ids ports h.1 k p e

-- an output of an instance has an inner wire
inner_wire : (s : Tree) → IsWhole s → (n port : ℕ) (i : InstId) (row : NodeRow) → slice_get (graph s).nodes n ≡ Some row → row.node ≡ InstOut i port
    → (id : NodeId) × (wire : NodeRow) × (driver : Option NodeId) × (slice_get (graph (kid s i.0)).outputs port ≡ Some id) × (slice_get (graph (kid s i.0)).nodes id.0 ≡ Some wire)
    × (wire.node ≡ Wire driver)
inner_wire s w n port i row e q =
    let l : (it : Instance) × (p : Port) × (slice_get (graph s).instances i.0 ≡ Some it) × (slice_get it.ports.outputs port ≡ Some p) × (p.width ≡ row.width) =
    subst (IsLawfulNode (graph s) row.width) q ((lawful s w).nodes n row e).1 in
    let k : ((graph (kid s i.0)).ports ≡ l.0.ports) × IsWhole (kid s i.0) = whole_kid s w i.0 l.0 l.2 in
    let inner : Graph = graph (kid s i.0) in
    let law : IsLawful inner = lawful (kid s i.0) k.1 in
    let o : (id : NodeId) × (slice_get inner.outputs port ≡ Some id) = node_of_port inner inner.outputs inner.ports.outputs law.outputs port l.1
    (subst (λ (ports : Ports). slice_get ports.outputs port ≡ Some l.1) (sym k.0) l.3) in
    let x : (wire : NodeRow) × (driver : Option NodeId) × (slice_get inner.nodes o.0.0 ≡ Some wire) × (wire.node ≡ Wire driver) × (wire.label ≡ None) = law.wires o.0
    (has_slice inner.outputs port o.0 o.1) in
    (o.0, x.0, x.1, o.1, x.2, x.3)

-- an input of an instance has a connection
outer_node : (s : Tree) → IsWhole s → (i : ℕ) → Reached (graph s) (inst i) → (n port : ℕ) (row : NodeRow) → slice_get (graph (kid s i)).nodes n ≡ Some row → row.node ≡ Input port
    → (id : NodeId) × (connection (graph s) i port ≡ Some id)
outer_node s w i r n port row e q =
    let it : HasRow (graph s) (inst i) = reached_row (graph s) (lawful s w) r in
    let k : ((graph (kid s i)).ports ≡ it.0.ports) × IsWhole (kid s i) = whole_kid s w i it.0 it.1 in
    let inner : Graph = graph (kid s i) in
    let l : (p : Port) × (slice_get inner.ports.inputs port ≡ Some p) × (p.width ≡ row.width) = subst (IsLawfulNode inner row.width) q ((lawful (kid s i) k.1).nodes n row e).1 in
    let c : (id : NodeId) × (slice_get it.0.conns port ≡ Some id) =
    node_of_port (graph s) it.0.conns it.0.ports.inputs ((lawful s w).instances it.0 (has_slice (graph s).instances i it.0 it.1)).conns port l.0
    (subst (λ (ports : Ports). slice_get ports.inputs port ≡ Some l.0) k.0 l.1) in
    (c.0, ap (λ o. connection_of o port) it.1 ∙ c.1)

-- a node that passes nothing on, an output of an instance, or an input below the top
abbrev Kind : List ℕ → Node → Type 0
Kind path x = (is_port_alias path x ≡ false) ⊎ (((i : InstId) × (port : ℕ) × (x ≡ InstOut i port)) ⊎ ((j : ℕ) × (above : List ℕ) × (port : ℕ) × (path ≡ j ∷ above) × (x ≡ Input port)))

kind : (path : List ℕ) (x : Node) → Kind path x
kind [] (Input port) = inl refl
kind (j ∷ path) (Input port) = inr (inr (j, path, port, refl, refl))
kind path (Wire driver) = inl refl
kind path (Const value) = inl refl
kind path (Two op a b) = inl refl
kind path (Not a) = inl refl
kind path (Mux sel cases) = inl refl
kind path (Cat parts) = inl refl
kind path (Select a hi lo) = inl refl
kind path (Reg next enable clear init) = inl refl
kind path (Read m addr) = inl refl
kind path (InstOut i port) = inr (inl (i, port, refl))
kind path (Op k args) = inl refl

module _ (t : Tree) (whole : IsWhole t) where
  pub record Stands (path : List ℕ) (n : ℕ) : Type 0 where
    pub spot : Occurrence
    pub reached : FlatReached t spot.path (node spot.node)
    pub flat : IsFlatNode t spot
    pub number : (g : Graph) (f : IsFlat t g) → f.at.node path n ≡ f.at.node spot.path spot.node

  there : (path : List ℕ) {x : Vertex} → FlatReached t path x → IsWhole (tree_at t path)
  there path r = whole_at t whole path (flat_at t r).0

  stays : (path : List ℕ) (n : ℕ) (row : NodeRow) → FlatReached t path (node n) → slice_get (graph_at t path).nodes n ≡ Some row → is_port_alias path row.node ≡ false → Stands path n
  stays path n row r e a = record { spot = record { path = path; node = n }; reached = r; flat = (flat_at t r, (row, e, a)); number = λ g f. refl }

  comes_out : (path : List ℕ) (n : ℕ) (row : NodeRow) (i : InstId) (port : ℕ) → FlatReached t path (node n) → slice_get (graph_at t path).nodes n ≡ Some row → row.node ≡ InstOut i port → Stands path n
  comes_out path n row i port r e q =
      let o : _ = inner_wire (tree_at t path) (there path r) n port i row e q in
      let d : FlatReached t (i.0 ∷ path) (node o.0.0) = flat.down port r (row, e, q) o.3 in
      record {
        spot = record { path = i.0 ∷ path; node = o.0.0 };
        reached = d;
        flat = (flat_at t d, (o.1, o.4, ap (is_port_alias (i.0 ∷ path)) o.5));
        number = λ g f. f.down path n i.0 port o.0.0 r (row, e, q) o.3;
      }

  goes_up : (i : ℕ) (path : List ℕ) (n : ℕ) (row : NodeRow) (port : ℕ) → FlatReached t (i ∷ path) (node n) → slice_get (graph_at t (i ∷ path)).nodes n ≡ Some row
      → row.node ≡ Input port → ((m : ℕ) → FlatReached t path (node m) → Stands path m) → Stands (i ∷ path) n
  goes_up i path n row port r e q above =
      let a : IsReachedPath t (i ∷ path) = (flat_at t r).0 in
      let o : _ = outer_node (tree_at t path) (whole_at t whole path a.0) i a.1 n port row e q in
      let s : Stands path o.0.0 = above o.0.0 (flat.up port r (row, e, q) o.1) in
      record { spot = s.spot; reached = s.reached; flat = s.flat; number = λ g f. f.up path n i port o.0.0 r (row, e, q) o.1 ∙ s.number g f }

  row_of : (path : List ℕ) (n : ℕ) → FlatReached t path (node n) → HasRow (graph_at t path) (node n)
  row_of path n r = reached_row (graph_at t path) (lawful (tree_at t path) (there path r)) (flat_at t r).1

  pub stands : (path : List ℕ) (n : ℕ) → FlatReached t path (node n) → Stands path n
  stands [] n r =
      let x : HasRow (graph_at t []) (node n) = row_of [] n r in
      elim (kind [] x.0.node) [
        | inl a ↦ stays [] n x.0 r x.1 a
        | inr (inl b) ↦ comes_out [] n x.0 b.0 b.1 r x.1 b.2
        | inr (inr c) ↦ (let none : [] ≡ c.0 ∷ c.1 = c.3 in cc)
      ]
  stands (i ∷ path) n r =
      let x : HasRow (graph_at t (i ∷ path)) (node n) = row_of (i ∷ path) n r in
      elim (kind (i ∷ path) x.0.node) [
        | inl a ↦ stays (i ∷ path) n x.0 r x.1 a
        | inr (inl b) ↦ comes_out (i ∷ path) n x.0 b.0 b.1 r x.1 b.2
        | inr (inr c) ↦ goes_up i path n x.0 c.2 r x.1 c.4 (stands path)
      ]
