-- What the calls of the builder do with the graph so far.
use Rattle.std.specs.Prelude.{◌≡◌, ℕ, zero, suc, ◌+◌, ◌*◌, ◌^◌, ◌<◌, Bool, true, false, IsTrue, ◌||◌, ◌==◌, is_some, List, [], ◌∷◌, ◌++◌, map, length, slice_get, Option, Some, None, option_map, Result, Ok, Err}
use Rattle.std.specs.List.{list_any}
use Rattle.hc_fault.specs.declared.fault.FaultKind.{FaultKind}
use Rattle.hc_fault.specs.declared.name.Name.{Name}
use Rattle.hc_signal.specs.Member.{Has}
use Rattle.hc_signal.specs.declared.stop.BuildStop.{BuildStop}
use Rattle.hc_signal.specs.declared.stop.BuildStop.TheVariants.{Fault, NoMemory}
use Rattle.hc_signal.specs.declared.signal.Port.{Port}
use Rattle.hc_signal.specs.declared.signal.Ports.{Ports}
use Rattle.hc_signal.specs.declared.signal.NodeId.{NodeId}
use Rattle.hc_signal.specs.declared.signal.InstId.{InstId}
use Rattle.hc_signal.specs.declared.signal.Instance.{Instance}
use Rattle.hc_signal.specs.declared.signal.MemId.{MemId}
use Rattle.hc_signal.specs.declared.signal.Memory.{Memory}
use Rattle.hc_signal.specs.declared.signal.WritePort.{WritePort}
use Rattle.hc_bits.specs.BitVector.{BitVector}
use Rattle.hc_signal.specs.declared.signal.NodeRow.{NodeRow}
use Rattle.hc_signal.specs.declared.signal.Node.{Node}
use Rattle.hc_signal.specs.declared.signal.Node.TheVariants.{Input, Wire, Const, Two, Not, Mux, Cat, Select, Reg, Read, InstOut, Op}
use Rattle.hc_signal.specs.Graph.{Graph}
use Rattle.hc_signal.specs.Weight.{graph_weight}

-- A call answers a fault exactly where the rule has it.
abbrev pub Obeys : {T : Type 0} → Result T BuildStop → Option FaultKind → Type 0
Obeys (Ok answer) broken = broken ≡ None
Obeys (Err (Fault kind)) broken = broken ≡ Some kind
Obeys (Err NoMemory) broken = broken ≡ None

-- ---- what the calls ask

abbrev pub IsNode : Graph → NodeId → Type 0
IsNode g id = id.0 < length g.nodes

abbrev pub AreNodes : Graph → List NodeId → Type 0
AreNodes g ids = (id : NodeId) → Has ids id → IsNode g id

-- room for one node more, of so many operands: places fit 32 bits, and the weight 64
abbrev pub HasRoomForNode : Graph → ℕ → Type 0
HasRoomForNode g operands = (length g.nodes + 1 < 2 ^ 32) × (graph_weight g + 1 + operands < 2 ^ 64)

-- ---- widths

abbrev pub row_width : Option NodeRow → ℕ
row_width None = 0
row_width (Some row) = row.width

abbrev pub width_at : Graph → NodeId → ℕ
width_at g id = row_width (slice_get g.nodes id.0)

abbrev pub widths_at : Graph → List NodeId → List ℕ
widths_at g ids = map (width_at g) ids

-- ---- new nodes

abbrev pub unlabelled : ℕ → Node → NodeRow
unlabelled width node = record { width = width; node = node; label = None }

abbrev pub with_row : Graph → NodeRow → Graph
with_row g row = record g { nodes = g.nodes ++ row ∷ [] }

-- one node more, at the end
abbrev pub AddsNode : Graph → ℕ → Node → Graph → NodeId → Type 0
AddsNode old width node new id = (new ≡ with_row old (unlabelled width node)) × (id.0 ≡ length old.nodes)

-- it stands for no port: neither an input nor an output of an instance
abbrev pub is_inner : Node → Bool
is_inner (Input port) = false
is_inner (InstOut i port) = false
is_inner other = true

abbrev pub port : Name → ℕ → Port
port name width = record { name = name; width = width }

-- one input port more, and its node
abbrev pub AddsInput : Graph → Name → ℕ → Graph → NodeId → Type 0
AddsInput old name width new id =
    (new ≡ with_row (record old { ports = record { inputs = old.ports.inputs ++ port name width ∷ []; outputs = old.ports.outputs } }) (unlabelled width (Input (length old.ports.inputs))))
    × (id.0 ≡ length old.nodes)

-- one output port more, and its wire
abbrev pub AddsOutput : Graph → Name → ℕ → Graph → NodeId → Type 0
AddsOutput old name width new id =
    (new ≡ with_row (record old { ports = record { inputs = old.ports.inputs; outputs = old.ports.outputs ++ port name width ∷ [] }; outputs = old.outputs ++ id ∷ [] }) (unlabelled width (Wire None)))
    × (id.0 ≡ length old.nodes)

-- ---- instances

-- a node for each output of an instance, from its k-th on
abbrev pub output_rows : ℕ → ℕ → List Port → List NodeRow
output_rows i k [] = []
output_rows i k (p ∷ ps) = unlabelled p.width (InstOut (record { 0 = i }) k) ∷ output_rows i (k + 1) ps

-- one instance more, and a node for each of its outputs
abbrev pub AddsInstance : Graph → Ports → List NodeId → Graph → InstId → Type 0
AddsInstance old ports conns new id =
    (new ≡ record old { nodes = old.nodes ++ output_rows id.0 0 ports.outputs; instances = old.instances ++ record { ports = ports; conns = conns; label = None } ∷ [] })
    × (id.0 ≡ length old.instances)

-- room for one instance more, with these outputs and connections
abbrev pub HasRoomForInstance : Graph → List Port → List NodeId → Type 0
HasRoomForInstance g outputs conns =
    (length g.instances + 1 < 2 ^ 32) × (length g.nodes + length outputs < 2 ^ 32) × (graph_weight g + 1 + 2 * length conns + length outputs < 2 ^ 64)

-- the instance and its output are there
abbrev pub HasOutput : Graph → InstId → ℕ → Type 0
HasOutput g inst port = (it : Instance) × (slice_get g.instances inst.0 ≡ Some it) × (port < length it.ports.outputs)

-- ---- changed rows

-- the list with f of the element at a place
abbrev pub change_at : {X : Type 0} → (X → X) → ℕ → List X → List X
change_at f n [] = []
change_at f zero (x ∷ xs) = f x ∷ xs
change_at f (suc n) (x ∷ xs) = x ∷ change_at f n xs

-- ---- drivers

abbrev pub driver_of : Node → Option NodeId
driver_of (Wire driver) = driver
driver_of other = None

abbrev pub is_wire : Node → Bool
is_wire (Wire driver) = true
is_wire other = false

abbrev pub IsWire : Graph → NodeId → Type 0
IsWire g id = (row : NodeRow) × (slice_get g.nodes id.0 ≡ Some row) × IsTrue (is_wire row.node)

abbrev pub is_driven : Option NodeRow → Bool
is_driven None = false
is_driven (Some row) = is_some (driver_of row.node)

abbrev pub is_driven_at : Graph → NodeId → Bool
is_driven_at g id = is_driven (slice_get g.nodes id.0)

abbrev pub driven_from : NodeId → NodeRow → NodeRow
driven_from from row = record row { node = Wire (Some from) }

abbrev pub with_driver : Graph → NodeId → NodeId → Graph
with_driver g wire from = record g { nodes = change_at (driven_from from) wire.0 g.nodes }

-- ---- memories

abbrev pub IsMemory : Graph → MemId → Type 0
IsMemory g id = id.0 < length g.memories

abbrev pub memory_width : Option Memory → ℕ
memory_width None = 0
memory_width (Some m) = m.width

abbrev pub memory_width_at : Graph → MemId → ℕ
memory_width_at g id = memory_width (slice_get g.memories id.0)

-- one memory more, at the end
abbrev pub AddsMemory : Graph → ℕ → ℕ → Graph → MemId → Type 0
AddsMemory old size width new id =
    (new ≡ record old { memories = old.memories ++ record { size = size; width = width; writes = []; label = None } ∷ [] }) × (id.0 ≡ length old.memories)

-- one write port more, after the others
abbrev pub written : WritePort → Memory → Memory
written w m = record m { writes = m.writes ++ w ∷ [] }

abbrev pub with_write : Graph → MemId → WritePort → Graph
with_write g id w = record g { memories = change_at (written w) id.0 g.memories }

abbrev pub HasRoomForMemory : Graph → Type 0
HasRoomForMemory g = (length g.memories + 1 < 2 ^ 32) × (graph_weight g + 1 < 2 ^ 64)

abbrev pub HasRoomForWrite : Graph → Type 0
HasRoomForWrite g = graph_weight g + 4 < 2 ^ 64

-- ---- registers

abbrev pub MayBeNode : Graph → Option NodeId → Type 0
MayBeNode g None = Unit {0}
MayBeNode g (Some id) = IsNode g id

abbrev pub clear_of : Option (NodeId × BitVector) → Option NodeId
clear_of None = None
clear_of (Some c) = Some c.0

-- ---- labels

abbrev pub is_input : Node → Bool
is_input (Input port) = true
is_input other = false

abbrev pub is_input_row : Option NodeRow → Bool
is_input_row None = false
is_input_row (Some row) = is_input row.node

-- the node is the wire of an output
abbrev pub is_output : Graph → ℕ → Bool
is_output g n = list_any (λ (id : NodeId). id.0 == n) g.outputs

-- it is the node of an input or an output
abbrev pub is_port_node : Graph → NodeId → Bool
is_port_node g id = is_input_row (slice_get g.nodes id.0) || is_output g id.0

abbrev pub IsInstance : Graph → InstId → Type 0
IsInstance g id = id.0 < length g.instances

abbrev pub is_labelled_row : Option NodeRow → Bool
is_labelled_row None = false
is_labelled_row (Some row) = is_some row.label

abbrev pub has_node_label : Graph → NodeId → Bool
has_node_label g id = is_labelled_row (slice_get g.nodes id.0)

abbrev pub is_labelled_memory : Option Memory → Bool
is_labelled_memory None = false
is_labelled_memory (Some m) = is_some m.label

abbrev pub has_memory_label : Graph → MemId → Bool
has_memory_label g id = is_labelled_memory (slice_get g.memories id.0)

abbrev pub is_labelled_instance : Option Instance → Bool
is_labelled_instance None = false
is_labelled_instance (Some it) = is_some it.label

abbrev pub has_instance_label : Graph → InstId → Bool
has_instance_label g id = is_labelled_instance (slice_get g.instances id.0)

abbrev pub labelled_row : Name → NodeRow → NodeRow
labelled_row label row = record row { label = Some label }

abbrev pub labelled_memory : Name → Memory → Memory
labelled_memory label m = record m { label = Some label }

abbrev pub labelled_instance : Name → Instance → Instance
labelled_instance label it = record it { label = Some label }

abbrev pub with_node_label : Graph → NodeId → Name → Graph
with_node_label g id label = record g { nodes = change_at (labelled_row label) id.0 g.nodes }

abbrev pub with_memory_label : Graph → MemId → Name → Graph
with_memory_label g id label = record g { memories = change_at (labelled_memory label) id.0 g.memories }

abbrev pub with_instance_label : Graph → InstId → Name → Graph
with_instance_label g id label = record g { instances = change_at (labelled_instance label) id.0 g.instances }
