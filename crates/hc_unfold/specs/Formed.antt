-- Graphs under way: each rule of a lawful graph but for the count of its rows, and the changes that keep them.
use Rattle.std.specs.Prelude.{◌≡◌, ℕ, ◌<◌, ◌≤◌, true, false, List, [], ◌∷◌, ◌++◌, length, slice_get, Option, Some, None}
use Rattle.hc_bits.specs.BitVector.{IsWidth}
use Rattle.hc_fault.specs.declared.name.Name.{Name}
use Rattle.hc_signal.specs.Member.{Has}
use Rattle.hc_signal.specs.declared.signal.InstId.{InstId}
use Rattle.hc_signal.specs.declared.signal.Instance.{Instance}
use Rattle.hc_signal.specs.declared.signal.MemId.{MemId}
use Rattle.hc_signal.specs.declared.signal.Memory.{Memory}
use Rattle.hc_signal.specs.declared.signal.Node.{Node}
use Rattle.hc_signal.specs.declared.signal.Node.TheVariants.{Input, Wire, InstOut}
use Rattle.hc_signal.specs.declared.signal.NodeId.{NodeId}
use Rattle.hc_signal.specs.declared.signal.NodeRow.{NodeRow}
use Rattle.hc_signal.specs.declared.signal.Ports.{Ports}
use Rattle.hc_signal.specs.declared.signal.WritePort.{WritePort}
use Rattle.hc_signal.specs.Graph.{Graph}
use Rattle.hc_signal.specs.Builds.{IsInstance, IsMemory, IsNode, IsWire, is_inner, is_port_node, memory_width_at, output_rows, port, unlabelled, width_at, with_driver, with_instance_label, with_memory_label, with_node_label, with_row, with_write}
use Rattle.hc_signal.specs.Lawful.{ArePorts, HaveWidthsOf, IsLawfulInstance, IsLawfulMemory, IsLawfulNode, NodeAt}

pub record IsFormed (g : Graph) : Type 0 where
  pub ports : ArePorts g.ports
  pub nodes : (n : ℕ) (row : NodeRow) → slice_get g.nodes n ≡ Some row → IsWidth row.width × IsLawfulNode g row.width row.node
  pub memories : (m : Memory) → Has g.memories m → IsLawfulMemory g m
  pub instances : (i : Instance) → Has g.instances i → IsLawfulInstance g i
  pub outputs : HaveWidthsOf g g.outputs g.ports.outputs
  pub wires : (id : NodeId) → Has g.outputs id → (row : NodeRow) × (driver : Option NodeId) × (slice_get g.nodes id.0 ≡ Some row) × (row.node ≡ Wire driver) × (row.label ≡ None)
  pub own_wire : (i j : ℕ) (id : NodeId) → slice_get g.outputs i ≡ Some id → slice_get g.outputs j ≡ Some id → i ≡ j
  pub inputs : (k : ℕ) → k < length g.ports.inputs → (n : ℕ) × NodeAt g n (Input k)
  pub one_input : (m n k : ℕ) → NodeAt g m (Input k) → NodeAt g n (Input k) → m ≡ n
  pub no_label : (n k : ℕ) (row : NodeRow) → slice_get g.nodes n ≡ Some row → row.node ≡ Input k → row.label ≡ None
  pub one_output : (m n k : ℕ) (i : InstId) → NodeAt g m (InstOut i k) → NodeAt g n (InstOut i k) → m ≡ n

-- each number of a place fits 32 bits
pub record AreFew (g : Graph) : Type 0 where
  pub nodes : length g.nodes ≤ 4294967296
  pub memories : length g.memories ≤ 4294967296
  pub instances : length g.instances ≤ 4294967296

-- one input port more, and its node
abbrev pub more_inputs : Graph → Name → ℕ → Graph
more_inputs g name w = with_row (record g { ports = record { inputs = g.ports.inputs ++ port name w ∷ []; outputs = g.ports.outputs } }) (unlabelled w (Input (length g.ports.inputs)))

-- one output port more, and its wire
abbrev pub more_outputs : Graph → Name → ℕ → Graph
more_outputs g name w = with_row (record g {
  ports = record { inputs = g.ports.inputs; outputs = g.ports.outputs ++ port name w ∷ [] };
  outputs = g.outputs
      ++ record { 0 = length g.nodes } ∷ [];
}) (unlabelled w (Wire None))

abbrev pub more_memories : Graph → ℕ → ℕ → Graph
more_memories g size w = record g { memories = g.memories ++ record { size = size; width = w; writes = []; label = None } ∷ [] }

-- one instance more, and a node for each of its outputs
abbrev pub more_instances : Graph → Ports → List NodeId → Graph
more_instances g ports conns = record g { nodes = g.nodes ++ output_rows (length g.instances) 0 ports.outputs; instances = g.instances ++ record { ports = ports; conns = conns; label = None } ∷ [] }

-- the changes that keep a graph formed
pub record ChangesKeepForm : Type 0 where
  pub node : (g : Graph) (w : ℕ) (x : Node) → IsFormed g → IsWidth w → IsLawfulNode g w x → is_inner x ≡ true → IsFormed (with_row g (unlabelled w x))
  pub input : (g : Graph) (name : Name) (w : ℕ) → IsFormed g → IsWidth w → IsFormed (more_inputs g name w)
  pub output : (g : Graph) (name : Name) (w : ℕ) → IsFormed g → IsWidth w → IsFormed (more_outputs g name w)
  pub memory : (g : Graph) (size w : ℕ) → IsFormed g → IsWidth w → 1 ≤ size → size ≤ 65536 → IsFormed (more_memories g size w)
  pub instance : (g : Graph) (ports : Ports) (conns : List NodeId) → IsFormed g → ArePorts ports → HaveWidthsOf g conns ports.inputs → IsFormed (more_instances g ports conns)
  pub driver : (g : Graph) (id from : NodeId) → IsFormed g → IsWire g id → IsNode g from → width_at g id ≡ width_at g from → IsFormed (with_driver g id from)
  pub write : (g : Graph) (id : MemId) (w : WritePort) → IsFormed g → IsMemory g id → IsNode g w.enable → IsNode g w.addr → IsNode g w.value → width_at g w.enable ≡ 1
      → width_at g w.value ≡ memory_width_at g id → IsFormed (with_write g id w)
  pub node_label : (g : Graph) (id : NodeId) (label : Name) → IsFormed g → IsNode g id → is_port_node g id ≡ false → IsFormed (with_node_label g id label)
  pub memory_label : (g : Graph) (id : MemId) (label : Name) → IsFormed g → IsMemory g id → IsFormed (with_memory_label g id label)
  pub instance_label : (g : Graph) (id : InstId) (label : Name) → IsFormed g → IsInstance g id → IsFormed (with_instance_label g id label)
