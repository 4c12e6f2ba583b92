-- The weight and the memory words of a circuit.
use Rattle.std.specs.Prelude.{ℕ, ◌+◌, ◌*◌, length, sum_by, option_to_list}
use Rattle.hc_signal.specs.declared.signal.NodeRow.{NodeRow}
use Rattle.hc_signal.specs.declared.signal.Node.{Node}
use Rattle.hc_signal.specs.declared.signal.Node.TheVariants.{Input, Wire, Const, Two, Not, Mux, Cat, Select, Reg, Read, InstOut, Op}
use Rattle.hc_signal.specs.declared.signal.Memory.{Memory}
use Rattle.hc_signal.specs.declared.signal.Instance.{Instance}
use Rattle.hc_signal.specs.Graph.{Graph}

-- How many operands a node has. A wire has one, driven or not; the memory of a read is none.
abbrev pub operands : Node → ℕ
operands (Input port) = 0
operands (Wire driver) = 1
operands (Const value) = 0
operands (Two op a b) = 2
operands (Not a) = 1
operands (Mux sel cases) = 1 + length cases
operands (Cat parts) = length parts
operands (Select a hi lo) = 1
operands (Reg next enable clear init) = 1 + length (option_to_list enable) + length (option_to_list clear)
operands (Read m addr) = 1
operands (InstOut i port) = 0
operands (Op kind args) = length args

-- a node counts one and its operands
abbrev pub node_weight : NodeRow → ℕ
node_weight row = 1 + operands row.node

-- a memory counts one, and each of its write ports four
abbrev pub memory_weight : Memory → ℕ
memory_weight m = 1 + 4 * length m.writes

-- an instance counts one, and each of its connections two
abbrev pub instance_weight : Instance → ℕ
instance_weight i = 1 + 2 * length i.conns

abbrev pub graph_weight : Graph → ℕ
graph_weight g = sum_by node_weight g.nodes + sum_by memory_weight g.memories + sum_by instance_weight g.instances

-- the words of all memories
abbrev pub graph_words : Graph → ℕ
graph_words g = sum_by (λ (m : Memory). m.size) g.memories
