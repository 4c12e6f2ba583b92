-- What a flat simulator holds, and the simulation that it stands for.
use Rattle.std.specs.Prelude.{◌≡◌, ℕ, Bool, true, false, if◌then◌else◌, List, [], ◌∷◌, map, replicate, slice_get, Option, Some, None, ◌↔◌}
use Rattle.hc_bits.specs.BitVector.{BitVector}
use Rattle.hc_signal.specs.Member.{Has}
use Rattle.hc_signal.specs.declared.signal.NodeId.{NodeId}
use Rattle.hc_signal.specs.declared.signal.MemId.{MemId}
use Rattle.hc_signal.specs.declared.signal.NodeRow.{NodeRow}
use Rattle.hc_signal.specs.declared.signal.Port.{Port}
use Rattle.hc_signal.specs.declared.signal.Memory.{Memory}
use Rattle.hc_signal.specs.declared.signal.Node.{Node}
use Rattle.hc_signal.specs.declared.signal.Node.TheVariants.{Reg}
use Rattle.hc_signal.specs.Graph.{Graph, mem, Reached}
use Rattle.hc_signal.specs.Lawful.{IsLawful}
use Rattle.hc_signal.specs.Checked.{IsChecked}
use Rattle.hc_signal.specs.Occurrences.{Occurrence, HasCombLoop}
use Rattle.hc_signal.specs.Tree.{Tree, leaf}
use Rattle.hc_paths.specs.Digraph.{AllDifferent}
use Rattle.hc_paths.specs.Schedule.{IsSchedule}
use Rattle.hc_bench.specs.Simulation.{State, IsSettled, clock_edge}
use Rattle.hc_bench.specs.Trace.{Simulation}
use Rattle.hc_flatsim.specs.Plan.{plan_of}
use Rattle.hc_flatsim.specs.declared.plan.Step.{Step}
use Rattle.hc_flatsim.specs.declared.known.Known.{Known}
use Rattle.hc_flatsim.specs.declared.known.Known.TheVariants.{Nothing, Settled, Rest}

-- A circuit, an order of its reached nodes, the plan to compute them, the registers among them, its reached memories, a value and a register value
-- for each node, the words of each memory, the inputs, the outputs before and after the last clock edge, and what is known
-- of the values.
pub record Machine : Type 0 where
  pub graph : Graph
  pub order : List NodeId
  pub plan : List Step
  pub clocked : List NodeId
  pub used : List MemId
  pub values : List BitVector
  pub registers : List BitVector
  pub memories : List (List BitVector)
  pub inputs : List BitVector
  pub before : List BitVector
  pub after : List BitVector
  pub known : Known

abbrev pub widths : List BitVector → List ℕ
widths xs = map (λ (x : BitVector). x.width) xs

abbrev pub numbers : List BitVector → List ℕ
numbers xs = map (λ (x : BitVector). x.value) xs

abbrev pub node_widths : List NodeRow → List ℕ
node_widths rows = map (λ (row : NodeRow). row.width) rows

abbrev pub port_widths : List Port → List ℕ
port_widths ports = map (λ (p : Port). p.width) ports

abbrev pub memory_widths : Memory → List ℕ
memory_widths m = replicate m.size m.width

-- the number at a place, 0 past the end
abbrev pub number_of : Option BitVector → ℕ
number_of None = 0
number_of (Some x) = x.value

abbrev pub number_at : List BitVector → ℕ → ℕ
number_at xs place = number_of (slice_get xs place)

-- the values as those of occurrences
abbrev pub valuation : List BitVector → Occurrence → ℕ
valuation values s = number_at values s.node

-- the words at a place, none past the end
abbrev pub words_of : Option (List BitVector) → List BitVector
words_of None = []
words_of (Some words) = words

abbrev pub words_at : List (List BitVector) → ℕ → List BitVector
words_at memories place = words_of (slice_get memories place)

-- a word, or 0 in this width
abbrev pub word_or_zero : ℕ → Option BitVector → BitVector
word_or_zero width None = record { width = width; value = 0 }
word_or_zero width (Some word) = word

-- an occurrence in a circuit without instances
abbrev pub at_node : ℕ → Occurrence
at_node n = record { path = []; node = n }

abbrev pub is_register : Node → Bool
is_register (Reg next enable clear init) = true
is_register other = false

abbrev pub is_register_row : Option NodeRow → Bool
is_register_row None = false
is_register_row (Some row) = is_register row.node

-- the registers among nodes
abbrev pub registers_among : Graph → List NodeId → List NodeId
registers_among g [] = []
registers_among g (id ∷ ids) = if is_register_row (slice_get g.nodes id.0) then id ∷ registers_among g ids else registers_among g ids

abbrev pub state_of : Machine → State
state_of m = record {
  registers = map (λ (id : NodeId). (at_node id.0, number_at m.registers id.0)) (registers_among m.graph m.order);
  memories = map (λ (id : MemId). (at_node id.0, numbers (words_at m.memories id.0))) m.used;
}

abbrev pub simulation_of : Machine → Simulation
simulation_of m = record {
  tree = leaf m.graph;
  state = state_of m;
  inputs = numbers m.inputs;
  before = numbers m.before;
  after = numbers m.after;
}

-- A circuit that a flat simulator takes.
pub record IsFlatCircuit (g : Graph) : Type 0 where
  pub checked : IsChecked g
  pub instances : g.instances ≡ []
  pub no_loop : ¬ HasCombLoop (leaf g)

-- What is known holds: at rest the values v are settled and a clock edge leaves the state as it is.
abbrev pub IsKnown : Known → Tree → State → List ℕ → (Occurrence → ℕ) → Type 0
IsKnown Nothing t state inputs v = Unit {0}
IsKnown Settled t state inputs v = IsSettled t state inputs v
IsKnown Rest t state inputs v = IsSettled t state inputs v × (clock_edge t v state ≡ state)

-- the values are settled
abbrev pub AreSettled : Machine → Type 0
AreSettled m = IsSettled (leaf m.graph) (state_of m) (numbers m.inputs) (valuation m.values)

-- a clock edge leaves the state as it is
abbrev pub IsAtRest : Machine → Type 0
IsAtRest m = clock_edge (leaf m.graph) (valuation m.values) (state_of m) ≡ state_of m

-- Each list has the widths of what it stands for, and what is known holds.
pub record IsMachine (m : Machine) : Type 0 where
  pub lawful : IsLawful m.graph
  pub flat : IsFlatCircuit m.graph
  pub schedule : IsSchedule m.graph m.order
  pub plan : m.plan ≡ plan_of m.graph m.order
  pub clocked : m.clocked ≡ registers_among m.graph m.order
  pub used : (id : MemId) → Has m.used id ↔ Reached m.graph (mem id.0)
  pub used_once : AllDifferent m.used
  pub values : widths m.values ≡ node_widths m.graph.nodes
  pub registers : widths m.registers ≡ node_widths m.graph.nodes
  pub memories : map widths m.memories ≡ map memory_widths m.graph.memories
  pub inputs : widths m.inputs ≡ port_widths m.graph.ports.inputs
  pub before : widths m.before ≡ port_widths m.graph.ports.outputs
  pub after : widths m.after ≡ port_widths m.graph.ports.outputs
  pub known : IsKnown m.known (leaf m.graph) (state_of m) (numbers m.inputs) (valuation m.values)
