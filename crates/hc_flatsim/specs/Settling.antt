-- The values of nodes, along an order.
use Rattle.std.specs.Prelude.{◌≡◌, ◌<◌, ◌≤◌, ◌+◌, ℕ, length, List, [], ◌∷◌, map, slice_get, slice_set, slice_index, Option, Some, None}
use Rattle.hc_bits.specs.BitVector.{BitVector}
use Rattle.hc_signal.specs.Member.{Has}
use Rattle.hc_signal.specs.declared.signal.Op2.{Op2}
use Rattle.hc_signal.specs.declared.signal.Op2.TheVariants.{Mulu, Muls}
use Rattle.hc_signal.specs.declared.signal.NodeId.{NodeId}
use Rattle.hc_signal.specs.declared.signal.NodeRow.{NodeRow}
use Rattle.hc_signal.specs.declared.signal.Node.{Node}
use Rattle.hc_signal.specs.declared.signal.Node.TheVariants.{Reg, Read}
use Rattle.hc_signal.specs.Graph.{Graph}
use Rattle.hc_signal.specs.Tree.{leaf}
use Rattle.hc_bench.specs.Simulation.{State, value, vector_at}
use Rattle.hc_flatsim.specs.Machine.{number_at, numbers, valuation, words_at, widths, node_widths, port_widths, memory_widths, IsFlatCircuit, Machine}

-- an operand with its width
abbrev pub operand : Graph → List BitVector → NodeId → BitVector
operand g values id = vector_at (leaf g) (valuation values) [] id

abbrev pub AreWithin : Graph → List NodeId → Type 0
AreWithin g ids = (id : NodeId) → Has ids id → id.0 < length g.nodes

-- the operator takes operands of these widths
abbrev pub IsTwo : Op2 → ℕ → ℕ → Type 0
IsTwo Mulu v w = v + w ≤ 128
IsTwo Muls v w = v + w ≤ 128
IsTwo op v w = v ≡ w

-- what does not change while the values settle
pub record Given : Type 0 where
  pub registers : List BitVector
  pub memories : List (List BitVector)
  pub inputs : List BitVector

abbrev pub no_state : State
no_state = record { registers = []; memories = [] }

-- The value of node n from those of its operands.
abbrev pub own_value : Graph → Given → List BitVector → ℕ → Node → ℕ
own_value g given values n (Reg next enable clear init) = number_at given.registers n
own_value g given values n (Read m addr) = slice_index (numbers (words_at given.memories m.0)) (number_at values addr.0)
own_value g given values n other = value (leaf g) no_state (numbers given.inputs) (valuation values) [] n other

abbrev pub own_vector : Graph → Given → List BitVector → ℕ → NodeRow → BitVector
own_vector g given values n row = record { width = row.width; value = own_value g given values n row.node }

-- the values after that of a node was computed
abbrev pub with_row : Graph → Given → List BitVector → ℕ → Option NodeRow → List BitVector
with_row g given values n None = values
with_row g given values n (Some row) = slice_set values n (own_vector g given values n row)

-- the values after those of the nodes were computed, in this order
abbrev pub settled : Graph → Given → List NodeId → List BitVector → List BitVector
settled g given [] values = values
settled g given (id ∷ ids) values = settled g given ids (with_row g given values id.0 (slice_get g.nodes id.0))

-- What does not change has the widths of the circuit.
pub record IsGiven (g : Graph) (given : Given) : Type 0 where
  pub flat : IsFlatCircuit g
  pub registers : widths given.registers ≡ node_widths g.nodes
  pub memories : map widths given.memories ≡ map memory_widths g.memories
  pub inputs : widths given.inputs ≡ port_widths g.ports.inputs

abbrev pub given_of : Machine → Given
given_of m = record { registers = m.registers; memories = m.memories; inputs = m.inputs }
