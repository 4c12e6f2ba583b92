-- Circuits as graphs: vertices, the fan-in of a vertex, and what the outputs reach.
use Rattle.std.specs.Prelude.{ℕ, List, [], ◌∷◌, ◌++◌, map, slice_get, Option, Some, None}
use Rattle.hc_signal.specs.Member.{Has}
use Rattle.hc_signal.specs.declared.signal.Ports.{Ports}
use Rattle.hc_signal.specs.declared.signal.NodeId.{NodeId}
use Rattle.hc_signal.specs.declared.signal.NodeRow.{NodeRow}
use Rattle.hc_signal.specs.declared.signal.Node.{Node}
use Rattle.hc_signal.specs.declared.signal.Node.TheVariants.{Input, Wire, Const, Two, Not, Mux, Cat, Select, Reg, Read, InstOut, Op}
use Rattle.hc_signal.specs.declared.signal.Memory.{Memory}
use Rattle.hc_signal.specs.declared.signal.WritePort.{WritePort}
use Rattle.hc_signal.specs.declared.signal.Instance.{Instance}
use Rattle.hc_bits.specs.BitVector.{BitVector}

-- a circuit as contracts see it
pub record Graph : Type 0 where
  pub ports : Ports
  pub outputs : List NodeId
  pub nodes : List NodeRow
  pub memories : List Memory
  pub instances : List Instance

-- a vertex: a place in one of the lists of a graph
pub data Vertex : Type 0 where
  node : ℕ → Vertex
  mem : ℕ → Vertex
  inst : ℕ → Vertex

abbrev pub node_of : NodeId → Vertex
node_of id = node id.0

abbrev pub nodes_of : List NodeId → List Vertex
nodes_of ids = map node_of ids

-- what a node is computed from, in order
abbrev pub optional_node : Option NodeId → List Vertex
optional_node None = []
optional_node (Some id) = node_of id ∷ []

abbrev pub clear_node : Option (NodeId × BitVector) → List Vertex
clear_node None = []
clear_node (Some c) = node_of c.0 ∷ []

abbrev pub fanin_of_node : Node → List Vertex
fanin_of_node (Input port) = []
fanin_of_node (Wire driver) = optional_node driver
fanin_of_node (Const value) = []
fanin_of_node (Two op a b) = node_of a ∷ node_of b ∷ []
fanin_of_node (Not a) = node_of a ∷ []
fanin_of_node (Mux sel cases) = node_of sel ∷ nodes_of cases
fanin_of_node (Cat parts) = nodes_of parts
fanin_of_node (Select a hi lo) = node_of a ∷ []
fanin_of_node (Reg next enable clear init) = node_of next ∷ (optional_node enable ++ clear_node clear)
fanin_of_node (Read m addr) = node_of addr ∷ mem m.0 ∷ []
fanin_of_node (InstOut i port) = inst i.0 ∷ []
fanin_of_node (Op kind args) = nodes_of args

abbrev pub fanin_of_writes : List WritePort → List Vertex
fanin_of_writes [] = []
fanin_of_writes (w ∷ ws) = node_of w.enable ∷ node_of w.addr ∷ node_of w.value ∷ fanin_of_writes ws

abbrev pub fanin_of_row : Option NodeRow → List Vertex
fanin_of_row None = []
fanin_of_row (Some row) = fanin_of_node row.node

abbrev pub fanin_of_memory : Option Memory → List Vertex
fanin_of_memory None = []
fanin_of_memory (Some m) = fanin_of_writes m.writes

abbrev pub fanin_of_instance : Option Instance → List Vertex
fanin_of_instance None = []
fanin_of_instance (Some i) = nodes_of i.conns

-- A node's operands; of a read its address and its memory; of an instance output its instance; of a
-- memory its write ports, each as enable, address, value; of an instance its connections.
abbrev pub fanin : Graph → Vertex → List Vertex
fanin g (node n) = fanin_of_row (slice_get g.nodes n)
fanin g (mem m) = fanin_of_memory (slice_get g.memories m)
fanin g (inst i) = fanin_of_instance (slice_get g.instances i)

-- The least set of vertices that holds the outputs and the fan-in of what it holds.
pub data Reached (g : Graph) : Vertex → Type 0 where
  output : (p : Vertex) → Has (nodes_of g.outputs) p → Reached g p
  further : (p q : Vertex) → Reached g p → Has (fanin g p) q → Reached g q
