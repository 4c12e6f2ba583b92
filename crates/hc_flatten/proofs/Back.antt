-- What a flat graph reaches is reached in the tree: so it has drivers and no loop where the tree has them and has none.
use Rattle.std.proofs.Common.{◌≡◌, ℕ, ◌≤◌, false, List, [], ◌∷◌, map, length, refl, sym, ◌∙◌, ap, subst}
use Rattle.std.specs.Prelude.{slice_get, Option, Some, None, option_map}
use Rattle.hc_signal.specs.Member.{Has}
use Rattle.hc_signal.specs.declared.signal.Ports.{Ports}
use Rattle.hc_signal.specs.declared.signal.NodeId.{NodeId}
use Rattle.hc_signal.specs.declared.signal.NodeRow.{NodeRow}
use Rattle.hc_signal.specs.declared.signal.Node.{Node}
use Rattle.hc_signal.specs.declared.signal.Node.TheVariants.{Input, Wire, Const, Two, Not, Mux, Cat, Select, Reg, Read, InstOut, Op}
use Rattle.hc_signal.specs.declared.signal.Memory.{Memory}
use Rattle.hc_signal.specs.Graph.{Graph, Vertex, node, mem, inst, Reached, output, further, fanin, fanin_of_row, fanin_of_memory, node_of}
use Rattle.hc_signal.specs.Lawful.{NodeAt}
use Rattle.hc_signal.specs.Checked.{IsChecked}
use Rattle.hc_signal.specs.Renumber.{Renumbering, renumber, id_by, node_by, row_by}
use Rattle.hc_signal.specs.Tree.{Tree, graph, leaf}
use Rattle.hc_signal.specs.Occurrences.{Occurrence, graph_at, IsReachedPath, is_port_alias, comb_fanin, CombStep, inside, down, up, CombPath, here, on, HasCombLoop}
use Rattle.hc_signal.specs.FlatGraph as flat
use Rattle.hc_signal.specs.FlatGraph.{FlatReached, IsFlat, within}
use Rattle.hc_walk.proofs.Members.{has_map, has_from_map}
use Rattle.hc_paths.proofs.Composed.{comb_fanin_fanin, path_then}
use Rattle.hc_canon.proofs.Isomorphisms.{row_parts_by, memory_parts_by}
use Rattle.hc_dbstate.proofs.Triples.{some_once}
use Rattle.hc_flatten.proofs.Good.{IsGood, checked_of, good_at, there}
use Rattle.hc_flatten.proofs.Passing.{is_inst, no_inst, writes_not, comb_by}
use Rattle.hc_flatten.proofs.Settled.{IsSettled, settle}

module _ (t : Tree) (w : IsGood t) (g : Graph) (f : IsFlat t g) where
  abbrev new : List ℕ → Renumbering
  new path = within f.at path

  -- the flat node behind a node of the flat graph
  pub record IsOf (n : ℕ) : Type 0 where
    pub spot : Occurrence
    pub reached : FlatReached t spot.path (node spot.node)
    pub row : NodeRow
    pub found : slice_get (graph_at t spot.path).nodes spot.node ≡ Some row
    pub kept : is_port_alias spot.path row.node ≡ false
    pub is_reached : IsReachedPath t spot.path × Reached (graph_at t spot.path) (node spot.node)
    pub number : f.at.node spot.path spot.node ≡ n

  abbrev settled_of : (path : List ℕ) (k n : ℕ) → IsSettled t w g f path k → f.at.node path k ≡ n → IsOf n
  settled_of path k n s q = record { spot = s.spot; reached = s.reached; row = s.flat.1.0; found = s.flat.1.1; kept = s.flat.1.2; is_reached = s.flat.0; number = s.number ∙ q }

  pub record IsOfMemory (m : ℕ) : Type 0 where
    pub path : List ℕ
    pub place : ℕ
    pub reached : FlatReached t path (mem place)
    pub number : f.at.mem path place ≡ m

  abbrev Back : Vertex → Type 0
  Back (node n) = IsOf n
  Back (mem m) = IsOfMemory m
  Back (inst i) = ⊥

  pub row_new : (n : ℕ) (s : IsOf n) → slice_get g.nodes n ≡ Some (row_by (new s.spot.path) s.row)
  row_new n s = ap (slice_get g.nodes) (sym s.number) ∙ f.nodes s.spot s.reached (s.is_reached, (s.row, s.found, s.kept)) ∙ ap (option_map (row_by (new s.spot.path))) s.found

  to_back : (path : List ℕ) (p q : Vertex) → FlatReached t path p → Has (fanin (graph_at t path) p) q → is_inst q ≡ false → Back (renumber (new path) q)
  to_back path p (node n) r h e = settled_of path n _ (settle t w g f path n (flat.to_node r h)) refl
  to_back path p (mem m) r h e = record { path = path; place = m; reached = flat.to_mem r h; number = refl }
  to_back path p (inst i) r h e = cc

  next_back : (path : List ℕ) (p to : Vertex) → FlatReached t path p → ((q : Vertex) → Has (fanin (graph_at t path) p) q → is_inst q ≡ false)
      → Has (map (renumber (new path)) (fanin (graph_at t path) p)) to → Back to
  next_back path p to r nots h =
      let x : _ = has_from_map (renumber (new path)) (fanin (graph_at t path) p) to h in
      subst Back x.2 (to_back path p x.0 r x.1 (nots x.0 x.1))

  back_further : (p q : Vertex) → Back p → Has (fanin g p) q → Back q
  back_further (node n) q s h =
      next_back s.spot.path (node s.spot.node) q s.reached
      (λ v k. no_inst s.spot.path s.row.node s.kept v (subst (λ o. Has (fanin_of_row o) v) s.found k))
      (subst (λ l. Has l q) (ap fanin_of_row (row_new n s) ∙ row_parts_by (new s.spot.path) (Some s.row) ∙ ap (λ o. map (renumber (new s.spot.path)) (fanin_of_row o)) (sym s.found)) h)
  back_further (mem m) q s h =
      next_back s.path (mem s.place) q s.reached
      (λ v k. memory_not (slice_get (graph_at t s.path).memories s.place) v k)
      (subst (λ l. Has l q) (ap (λ k. fanin_of_memory (slice_get g.memories k)) (sym s.number) ∙ ap fanin_of_memory (f.memories s.path s.place s.reached)
      ∙ memory_parts_by (new s.path) (slice_get (graph_at t s.path).memories s.place)) h)
    where
      memory_not : (o : Option Memory) (v : Vertex) → Has (fanin_of_memory o) v → is_inst v ≡ false
      memory_not None v k = elim k [ ]
      memory_not (Some x) v k = writes_not x.writes v k
  back_further (inst i) q s h = absurd s

  pub back : {p : Vertex} → Reached g p → Back p
  back (output p h) =
      let x : (id : NodeId) × Has g.outputs id × (node_of id ≡ p) = has_from_map node_of g.outputs p h in
      let y : (id : NodeId) × Has (graph t).outputs id × (id_by (new []) id ≡ x.0) = has_from_map (id_by (new [])) (graph t).outputs x.0 (subst (λ l. Has l x.0) f.outputs x.1) in
      subst Back x.2 (settled_of [] y.0.0 x.0.0 (settle t w g f [] y.0.0 (flat.output (has_map node_of y.1))) (ap (λ (id : NodeId). id.0) y.2))
  back (further p q r h) = back_further p q (back r) h

  -- no path in the flat graph
  top_only : (path : List ℕ) → IsReachedPath (leaf g) path → path ≡ []
  top_only [] r = refl
  top_only (i ∷ path) r =
      let q : path ≡ [] = top_only path r.0 in
      let x : Reached g (inst i) = subst (λ p. Reached (graph_at (leaf g) p) (inst i)) q r.1 in
      absurd (back x)

  was_output : (r : Renumbering) (path : List ℕ) (x : Node) (i : _) (port : ℕ) → is_port_alias path x ≡ false → node_by r x ≡ InstOut i port → ⊥
  was_output r path (Input k) i port a e = cc
  was_output r path (Wire d) i port a e = cc
  was_output r path (Const v) i port a e = cc
  was_output r path (Two op x y) i port a e = cc
  was_output r path (Not x) i port a e = cc
  was_output r path (Mux x y) i port a e = cc
  was_output r path (Cat x) i port a e = cc
  was_output r path (Select x hi lo) i port a e = cc
  was_output r path (Reg x y z v) i port a e = cc
  was_output r path (Read m x) i port a e = cc
  was_output r path (InstOut j k) i port a e = cc
  was_output r path (Op k x) i port a e = cc

  node_new : (n : ℕ) (s : IsOf n) (x : Node) → NodeAt g n x → node_by (new s.spot.path) s.row.node ≡ x
  node_new n s x y = ap (λ (row : NodeRow). row.node) (some_once (sym (row_new n s) ∙ y.1)) ∙ y.2

  record IsStep (n m : ℕ) (s : IsOf n) : Type 0 where
    pub mid : Occurrence
    pub end : IsOf m
    pub step : CombStep t s.spot.path s.spot.node mid.path mid.node
    pub rest : CombPath t mid.path mid.node end.spot.path end.spot.node

  comb_reached : (path : List ℕ) (n : ℕ) (row : NodeRow) (id : NodeId) → slice_get (graph_at t path).nodes n ≡ Some row → FlatReached t path (node n)
      → Has (comb_fanin row.node) id → FlatReached t path (node id.0)
  comb_reached path n row id e r h = flat.to_node r (subst (λ o. Has (fanin_of_row o) (node id.0)) (sym e) (comb_fanin_fanin row.node id h))

  inner_step : (n m : ℕ) (s : IsOf n) (x : Node) → NodeAt g n x → Has (comb_fanin x) (record { 0 = m }) → IsStep n m s
  inner_step n m s x y h =
      let q : node_by (new s.spot.path) s.row.node ≡ x = node_new n s x y in
      let k : (id : NodeId) × Has (comb_fanin s.row.node) id × (id_by (new s.spot.path) id ≡ record { 0 = m }) = has_from_map (id_by (new s.spot.path)) (comb_fanin s.row.node) (record { 0 = m })
      (subst (λ l. Has l (record { 0 = m })) (comb_by (new s.spot.path) s.row.node) (subst (λ z. Has (comb_fanin z) (record { 0 = m })) (sym q) h)) in
      let z : IsSettled t w g f s.spot.path k.0.0 = settle t w g f s.spot.path k.0.0 (comb_reached s.spot.path s.spot.node s.row k.0 s.found s.reached k.1) in
      record {
        mid = record { path = s.spot.path; node = k.0.0 };
        end = settled_of s.spot.path k.0.0 m z (ap (λ (id : NodeId). id.0) k.2);
        step = inside s.row.node (s.row, s.found, refl) k.1;
        rest = z.passed;
      }

  one_step : {p q : List ℕ} {n m : ℕ} → CombStep (leaf g) p n q m → p ≡ [] → (s : IsOf n) → (q ≡ []) × IsStep n m s
  one_step {p} {n = n} {m = m} (inside x y h) e s = (e, inner_step n m s x (y.0, subst (λ z. slice_get (graph_at (leaf g) z).nodes n ≡ Some y.0) e y.1, y.2) h)
  one_step {p} {n = n} (down {i = i} port y o) e s = absurd (was_output (new s.spot.path) s.spot.path s.row.node (record { 0 = i }) port s.kept
      (node_new n s (InstOut (record { 0 = i }) port) (y.0, subst (λ z. slice_get (graph_at (leaf g) z).nodes n ≡ Some y.0) e y.1, y.2)))
  one_step (up port y o) e s = cc

  record IsWalk (n m : ℕ) (s : IsOf n) : Type 0 where
    pub end : IsOf m
    pub path : CombPath t s.spot.path s.spot.node end.spot.path end.spot.node

  walk_back : {p q : List ℕ} {n m : ℕ} → CombPath (leaf g) p n q m → p ≡ [] → (s : IsOf n) → IsWalk n m s
  walk_back here e s = record { end = s; path = here }
  walk_back {n = n} {m = m} (on {k = k} c rest) e s =
      let x : _ = one_step c e s in
      let y : IsWalk k m x.1.end = walk_back rest x.0 x.1.end in
      record { end = y.end; path = on x.1.step (path_then t x.1.rest y.path) }

  same_spot : (n : ℕ) (a b : IsOf n) → a.spot ≡ b.spot
  same_spot n a b = sym (f.own_number a.spot a.reached (a.is_reached, (a.row, a.found, a.kept))) ∙ ap f.node_back (a.number ∙ sym b.number)
      ∙ f.own_number b.spot b.reached (b.is_reached, (b.row, b.found, b.kept))

  pub loop_back : HasCombLoop (leaf g) → HasCombLoop t
  loop_back x =
      let q : x.0.path ≡ [] = top_only x.0.path x.2.0 in
      let s : IsOf x.0.node = back (subst (λ p. Reached (graph_at (leaf g) p) (node x.0.node)) q x.2.1) in
      let a : _ = one_step x.3 q s in
      let b : IsWalk x.1.node x.0.node a.1.end = walk_back x.4 a.0 a.1.end in
      let v : CombPath t a.1.mid.path a.1.mid.node b.end.spot.path b.end.spot.node = path_then t a.1.rest b.path in
      (s.spot, a.1.mid, s.is_reached, a.1.step, subst (λ (z : Occurrence). CombPath t a.1.mid.path a.1.mid.node z.path z.node) (same_spot x.0.node b.end s) v)

  was_wire : (r : Renumbering) (x : Node) → node_by r x ≡ Wire None → x ≡ Wire None
  was_wire r (Input k) e = cc
  was_wire r (Wire None) e = refl
  was_wire r (Wire (Some d)) e = cc
  was_wire r (Const v) e = cc
  was_wire r (Two op x y) e = cc
  was_wire r (Not x) e = cc
  was_wire r (Mux x y) e = cc
  was_wire r (Cat x) e = cc
  was_wire r (Select x hi lo) e = cc
  was_wire r (Reg x y z v) e = cc
  was_wire r (Read m x) e = cc
  was_wire r (InstOut j k) e = cc
  was_wire r (Op k x) e = cc

  pub checked : IsChecked g
  checked =
      let c : IsChecked (graph t) = checked_of t w in
      record {
        outputs = subst (λ (ports : Ports). 1 ≤ length ports.outputs) (sym f.ports) c.outputs;
        few_inputs = subst (λ (ports : Ports). length ports.inputs ≤ 128) (sym f.ports) c.few_inputs;
        few_outputs = subst (λ (ports : Ports). length ports.outputs ≤ 128) (sym f.ports) c.few_outputs;
        driven = λ n r y. (let s : IsOf n = back r in
            let d : s.row.node ≡ Wire None = was_wire (new s.spot.path) s.row.node (node_new n s (Wire None) y) in
            (checked_of _ (good_at t w s.spot.path (there t w s.spot.path s.is_reached.0))).driven s.spot.node s.is_reached.1 (s.row, s.found, d));
      }
