-- The flat graph of a tree is one of each tree that is the same.
use Rattle.std.proofs.Common.{◌≡◌, ℕ, false, List, [], ◌∷◌, map, refl, sym, ◌∙◌, ap, ap₂, true≢false}
use Rattle.std.specs.Prelude.{slice_get, Some, option_map}
use Rattle.hc_signal.specs.declared.signal.NodeId.{NodeId}
use Rattle.hc_signal.specs.declared.signal.Node.{Node}
use Rattle.hc_signal.specs.declared.signal.Node.TheVariants.{Input, Wire, Const, Two, Not, Mux, Cat, Select, Reg, Read, InstOut, Op}
use Rattle.hc_signal.specs.Graph.{Graph, Vertex, node, mem, inst, Reached}
use Rattle.hc_signal.specs.Tree.{Tree, graph, IsWhole}
use Rattle.hc_signal.specs.Renumber.{Renumbering, renumber, id_by, node_by, row_by, memory_by}
use Rattle.hc_signal.specs.Occurrences.{Occurrence, graph_at, row_at, NodeIs, IsFlatNode, is_port_alias, connection}
use Rattle.hc_signal.specs.FlatGraph as flat
use Rattle.hc_signal.specs.FlatGraph.{FlatReached, FlatNumbering, within, IsFlat}
use Rattle.hc_canon.specs.Same.{IsIsomorphism, Same}
use Rattle.hc_canon.proofs.Renumbered.{then, number, ids_then, row_then, memory_then}
use Rattle.hc_canon.proofs.Isomorphisms.{isomorphism_back, same-sym}
use Rattle.hc_traces.proofs.FlatValues.{flat_at}
use Rattle.hc_trees.specs.Twins.{Partners, top}
use Rattle.hc_trees.proofs.Twins.{pairs_of}
use Rattle.hc_flattext.proofs.CarriedPaths.{Partner, PairedBelow, paired_below, partner, vertex_once, partners_back}
use Rattle.hc_flattext.proofs.CarriedReach.{node_along, output_along, connection_along, instance_reached, flat_along, flat_node_along}

-- a flat row has no instance in it
no_instance : (f g a b : ℕ → ℕ) (path : List ℕ) (x : Node) → is_port_alias path x ≡ false → node_by (record { node = f; mem = g; inst = a }) x ≡ node_by (record { node = f; mem = g; inst = b }) x
no_instance f g a b path (Input port) e = refl
no_instance f g a b path (Wire driver) e = refl
no_instance f g a b path (Const value) e = refl
no_instance f g a b path (Two op x y) e = refl
no_instance f g a b path (Not x) e = refl
no_instance f g a b path (Mux sel cases) e = refl
no_instance f g a b path (Cat parts) e = refl
no_instance f g a b path (Select x hi lo) e = refl
no_instance f g a b path (Reg next enable clear init) e = refl
no_instance f g a b path (Read m addr) e = refl
no_instance f g a b path (InstOut i port) e = absurd (true≢false e)
no_instance f g a b path (Op kind args) e = refl

flat_row : (f g a b : ℕ → ℕ) (t : Tree) (o : Occurrence) → IsFlatNode t o
    → option_map (row_by (record { node = f; mem = g; inst = a })) (row_at t o) ≡ option_map (row_by (record { node = f; mem = g; inst = b })) (row_at t o)
flat_row f g a b t o (r, (row, e, q)) =
    ap (option_map (row_by (record { node = f; mem = g; inst = a }))) e
    ∙ ap (λ x. Some (record { width = row.width; node = x; label = row.label })) (no_instance f g a b o.path row.node q)
    ∙ sym (ap (option_map (row_by (record { node = f; mem = g; inst = b }))) e)

top_outputs : (s t : Tree) (l : FlatNumbering) (outputs : List NodeId) (q : List ℕ) (to back : Renumbering) → Partners t s [] q
    → IsIsomorphism to back (graph t) (graph_at s q) → outputs ≡ map (id_by (within l [])) (graph s).outputs
    → outputs ≡ map (id_by (then to (within l q))) (graph t).outputs
top_outputs s t l outputs _ to back top x e = e ∙ ap (map (id_by (within l []))) x.outputs ∙ ids_then to (within l []) (graph t).outputs

module _ (s t : Tree) (g : Graph) (e : Same s t) (ws : IsWhole s) (wt : IsWhole t) (fl : IsFlat s g) where
  abbrev home : (path : List ℕ) → Partner t s path
  home path = partner t s (same-sym s t e) wt path

  abbrev away : (path : List ℕ) → Partner s t path
  away path = partner s t e ws path

  abbrev away_from : Occurrence → Occurrence
  away_from o = record { path = (away o.path).other; node = (away o.path).to.node o.node }

  -- the numbers of partners
  abbrev numbers : FlatNumbering
  numbers = record { node = λ path n. fl.at.node (home path).other ((home path).to.node n); mem = λ path m. fl.at.mem (home path).other ((home path).to.mem m) }

  paths : {path : List ℕ} {v : Vertex} → FlatReached t path v → Partners t s path (home path).other
  paths {path} r = (home path).paths (flat_at t r).0

  pairs : {path : List ℕ} {v : Vertex} → FlatReached t path v → IsIsomorphism (home path).to (home path).back (graph_at t path) (graph_at s (home path).other)
  pairs {path} r = (home path).pairs (flat_at t r).0

  reached : {path : List ℕ} {v : Vertex} → FlatReached t path v → FlatReached s (home path).other (renumber (home path).to v)
  reached {path} r = flat_along t s (same-sym s t e) r (home path).other (home path).to (home path).back (paths r) (pairs r)

  -- each pairing gives a node its number
  number_by : {path q : List ℕ} (n : ℕ) (to back : Renumbering) → FlatReached t path (node n) → Partners t s path q
      → IsIsomorphism to back (graph_at t path) (graph_at s q) → numbers.node path n ≡ fl.at.node q (to.node n)
  number_by {path} {q} n to back r u x =
      let o : ((home path).other ≡ q) × (renumber (home path).to (node n) ≡ renumber to (node n)) = vertex_once t s (home path).to (home path).back to back (paths r) (pairs r) u x (flat_at t r).1 in
      ap₂ (λ p k. fl.at.node p k) o.0 (ap number o.1)

  -- home and back again
  round : {path : List ℕ} {v : Vertex} → FlatReached t path v → ((away (home path).other).other ≡ path) × (renumber (away (home path).other).to (renumber (home path).to v) ≡ v)
  round {path} {v} r =
      let h : Partner t s path = home path in
      let f : FlatReached s h.other (renumber h.to v) = reached r in
      let k : Partner s t h.other = away h.other in
      let o : (k.other ≡ path) × (renumber k.to (renumber h.to v) ≡ renumber h.back (renumber h.to v)) =
      vertex_once s t k.to k.back h.back h.to (k.paths (flat_at s f).0) (k.pairs (flat_at s f).0) (partners_back t s (paths r))
      (isomorphism_back h.to h.back (graph_at t path) (graph_at s h.other) (pairs r)) (flat_at s f).1 in
      (o.0, o.1 ∙ (pairs r).one_to_one v (flat_at t r).1)

  down_same : (path : List ℕ) (n i port m : ℕ) → FlatReached t path (node n) → NodeIs t path n (InstOut (record { 0 = i }) port)
      → slice_get (graph_at t (i ∷ path)).outputs port ≡ Some (record { 0 = m }) → numbers.node path n ≡ numbers.node (i ∷ path) m
  down_same path n i port m r y o =
      let h : Partner t s path = home path in
      let z : PairedBelow t s (same-sym s t e) (i ∷ path) (h.to.inst i ∷ h.other) = paired_below t s (same-sym s t e) h.to h.back i (paths r) (pairs r)
      (instance_reached t path n i port (flat_at t r).1 y) in
      fl.down h.other (h.to.node n) (h.to.inst i) port (z.0.node m) (reached r)
      (node_along t s path h.other h.to h.back (pairs r) n (InstOut (record { 0 = i }) port) (flat_at t r).1 y)
      (output_along (graph_at t (i ∷ path)) (graph_at s (h.to.inst i ∷ h.other)) z.0 z.1 z.3 port m o)
      ∙ sym (number_by m z.0 z.1 (flat.down port r y o) z.2 z.3)

  up_same : (path : List ℕ) (n i port m : ℕ) → FlatReached t (i ∷ path) (node n) → NodeIs t (i ∷ path) n (Input port)
      → connection (graph_at t path) i port ≡ Some (record { 0 = m }) → numbers.node (i ∷ path) n ≡ numbers.node path m
  up_same path n i port m r y o =
      let h : Partner t s path = home path in
      let f : FlatReached t path (node m) = flat.up port r y o in
      let c : Reached (graph_at t path) (inst i) = (flat_at t r).0.1 in
      let z : PairedBelow t s (same-sym s t e) (i ∷ path) (h.to.inst i ∷ h.other) = paired_below t s (same-sym s t e) h.to h.back i (paths f) (pairs f) c in
      number_by n z.0 z.1 r z.2 z.3
      ∙ fl.up h.other (z.0.node n) (h.to.inst i) port (h.to.node m)
      (flat_along t s (same-sym s t e) r (h.to.inst i ∷ h.other) z.0 z.1 z.2 z.3)
      (node_along t s (i ∷ path) (h.to.inst i ∷ h.other) z.0 z.1 z.3 n (Input port) (flat_at t r).1 y)
      (connection_along (graph_at t path) (graph_at s h.other) h.to h.back (pairs f) i port m c o)

  flat_here : (o : Occurrence) → FlatReached t o.path (node o.node) → IsFlatNode t o → IsFlatNode s (record { path = (home o.path).other; node = (home o.path).to.node o.node })
  flat_here o r f = flat_node_along t s o.path (home o.path).other (home o.path).to (home o.path).back (paths r) (pairs r) o.node f

  nodes_same : (o : Occurrence) → FlatReached t o.path (node o.node) → IsFlatNode t o → slice_get g.nodes (numbers.node o.path o.node) ≡ option_map (row_by (within numbers o.path)) (row_at t o)
  nodes_same o r f =
      let h : Partner t s o.path = home o.path in
      fl.nodes (record { path = h.other; node = h.to.node o.node }) (reached r) (flat_here o r f)
      ∙ ap (option_map (row_by (within fl.at h.other))) ((pairs r).nodes o.node (flat_at t r).1)
      ∙ row_then h.to (within fl.at h.other) (row_at t o)
      ∙ flat_row (numbers.node o.path) (numbers.mem o.path) h.to.inst (λ i. i) t o f

  own_node : (o : Occurrence) → FlatReached t o.path (node o.node) → IsFlatNode t o → away_from (fl.node_back (numbers.node o.path o.node)) ≡ o
  own_node o r f =
      ap away_from (fl.own_number (record { path = (home o.path).other; node = (home o.path).to.node o.node }) (reached r) (flat_here o r f))
      ∙ ap₂ (λ p k. record { path = p; node = k }) (round r).0 (ap number (round r).1)

  memories_same : (path : List ℕ) (m : ℕ) → FlatReached t path (mem m)
      → slice_get g.memories (numbers.mem path m) ≡ option_map (memory_by (within numbers path)) (slice_get (graph_at t path).memories m)
  memories_same path m r =
      let h : Partner t s path = home path in
      fl.memories h.other (h.to.mem m) (reached r)
      ∙ ap (option_map (memory_by (within fl.at h.other))) ((pairs r).memories m (flat_at t r).1)
      ∙ memory_then h.to (within fl.at h.other) (slice_get (graph_at t path).memories m)

  abbrev away_memory : Occurrence → Occurrence
  away_memory o = record { path = (away o.path).other; node = (away o.path).to.mem o.node }

  own_memory : (path : List ℕ) (m : ℕ) → FlatReached t path (mem m) → away_memory (fl.mem_back (numbers.mem path m)) ≡ record { path = path; node = m }
  own_memory path m r =
      ap away_memory (fl.own_memory (home path).other ((home path).to.mem m) (reached r))
      ∙ ap₂ (λ p k. record { path = p; node = k }) (round r).0 (ap number (round r).1)

  pub flat_carried : IsFlat t g
  flat_carried = record {
    at = numbers;
    node_back = λ n. away_from (fl.node_back n);
    mem_back = λ m. away_memory (fl.mem_back m);
    ports = fl.ports ∙ (pairs_of t s (same-sym s t e)).2.ports;
    outputs = top_outputs s t fl.at g.outputs (home []).other (home []).to (home []).back ((home []).paths tt) ((home []).pairs tt) fl.outputs;
    instances = fl.instances;
    down = down_same;
    up = up_same;
    nodes = nodes_same;
    own_number = own_node;
    memories = memories_same;
    own_memory = own_memory;
  }
