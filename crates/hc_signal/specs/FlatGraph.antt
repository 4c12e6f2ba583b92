-- The tree without instances: a graph whose nodes are the flat nodes.
use Rattle.std.specs.Prelude.{◌≡◌, ℕ, List, [], ◌∷◌, map, slice_get, Some, option_map}
use Rattle.hc_signal.specs.Member.{Has}
use Rattle.hc_signal.specs.declared.signal.Node.TheVariants.{Input, InstOut}
use Rattle.hc_signal.specs.Graph.{Graph, Vertex, node, mem, fanin, nodes_of}
use Rattle.hc_signal.specs.Renumber.{Renumbering, id_by, row_by, memory_by}
use Rattle.hc_signal.specs.Tree.{Tree, graph}
use Rattle.hc_signal.specs.Occurrences.{Occurrence, graph_at, row_at, NodeIs, IsFlatNode, connection}

-- What the outputs of the top reach when instances are gone: an instance output reaches the inner
-- output alone, and an input below the top its connection.
pub data FlatReached (t : Tree) : List ℕ → Vertex → Type 0 where
  output : {p : Vertex} → Has (nodes_of (graph t).outputs) p → FlatReached t [] p
  to_node : {path : List ℕ} {p : Vertex} {n : ℕ} → FlatReached t path p → Has (fanin (graph_at t path) p) (node n) → FlatReached t path (node n)
  to_mem : {path : List ℕ} {p : Vertex} {m : ℕ} → FlatReached t path p → Has (fanin (graph_at t path) p) (mem m) → FlatReached t path (mem m)
  down : {path : List ℕ} {n i m : ℕ} (port : ℕ) → FlatReached t path (node n) → NodeIs t path n (InstOut (record { 0 = i }) port) → slice_get (graph_at t (i ∷ path)).outputs port ≡ Some (record { 0 = m }) → FlatReached t (i ∷ path) (node m)
  up : {path : List ℕ} {n i m : ℕ} (port : ℕ) → FlatReached t (i ∷ path) (node n) → NodeIs t (i ∷ path) n (Input port) → connection (graph_at t path) i port ≡ Some (record { 0 = m }) → FlatReached t path (node m)

-- a number in g for each node and memory of the tree, by path
pub record FlatNumbering : Type 0 where
  pub node : List ℕ → ℕ → ℕ
  pub mem : List ℕ → ℕ → ℕ

abbrev pub within : FlatNumbering → List ℕ → Renumbering
within l path = record { node = l.node path; mem = l.mem path; inst = λ i. i }

-- g is the same as the flat graph of t: the flat nodes and the memories that are reached stand in g
-- under numbers of their own. What passes another node on has that node's number.
pub record IsFlat (t : Tree) (g : Graph) : Type 0 where
  pub at : FlatNumbering
  pub node_back : ℕ → Occurrence
  pub mem_back : ℕ → Occurrence
  pub ports : g.ports ≡ (graph t).ports
  pub outputs : g.outputs ≡ map (id_by (within at [])) (graph t).outputs
  pub instances : g.instances ≡ []
  pub down : (path : List ℕ) (n i port m : ℕ) → FlatReached t path (node n) → NodeIs t path n (InstOut (record { 0 = i }) port) → slice_get (graph_at t (i ∷ path)).outputs port ≡ Some (record { 0 = m }) → at.node path n ≡ at.node (i ∷ path) m
  pub up : (path : List ℕ) (n i port m : ℕ) → FlatReached t (i ∷ path) (node n) → NodeIs t (i ∷ path) n (Input port) → connection (graph_at t path) i port ≡ Some (record { 0 = m }) → at.node (i ∷ path) n ≡ at.node path m
  pub nodes : (s : Occurrence) → FlatReached t s.path (node s.node) → IsFlatNode t s → slice_get g.nodes (at.node s.path s.node) ≡ option_map (row_by (within at s.path)) (row_at t s)
  pub own_number : (s : Occurrence) → FlatReached t s.path (node s.node) → IsFlatNode t s → node_back (at.node s.path s.node) ≡ s
  pub memories : (path : List ℕ) (m : ℕ) → FlatReached t path (mem m) → slice_get g.memories (at.mem path m) ≡ option_map (memory_by (within at path)) (slice_get (graph_at t path).memories m)
  pub own_memory : (path : List ℕ) (m : ℕ) → FlatReached t path (mem m) → mem_back (at.mem path m) ≡ record { path = path; node = m }
