-- The value of one node of a circuit.
use Rattle.std.specs.Prelude.{◌≡◌, ◌<◌, ◌≤◌, ◌+◌, ℕ, length, List, [], slice_get, slice_index, Option, Some, None}
use Rattle.hc_bits.specs.BitVector.{BitVector}
use Rattle.hc_signal.specs.Member.{Has}
use Rattle.hc_signal.specs.declared.signal.Op2.{Op2}
use Rattle.hc_signal.specs.declared.signal.Op2.TheVariants.{Mulu, Muls}
use Rattle.hc_signal.specs.declared.signal.NodeId.{NodeId}
use Rattle.hc_signal.specs.declared.signal.NodeRow.{NodeRow}
use Rattle.hc_signal.specs.declared.signal.Node.{Node}
use Rattle.hc_signal.specs.declared.signal.Node.TheVariants.{Input, Reg, Read, InstOut}
use Rattle.hc_signal.specs.Graph.{Graph}
use Rattle.hc_signal.specs.Tree.{Tree, leaf}
use Rattle.hc_signal.specs.Occurrences.{Occurrence}
use Rattle.hc_bench.specs.Simulation.{State, register_value, memory_words, value, width_of}
use Rattle.hc_values.specs.Rows.{Kept, number_at, numbers, words_at, at_path, StandsAt}

-- The state has, at path p, what node n reads of it: the value of a register, the words of a memory. An input and an output of
-- an instance have their values from other circuits.
abbrev pub HasStateFor : State → List ℕ → Kept → ℕ → Node → Type 0
HasStateFor state p kept n (Input port) = ⊥
HasStateFor state p kept n (InstOut i port) = ⊥
HasStateFor state p kept n (Reg next enable clear init) = register_value state (at_path p n) ≡ number_at kept.registers n
HasStateFor state p kept n (Read m addr) = memory_words state (at_path p m.0) ≡ numbers (words_at kept.memories m.0)
HasStateFor state p kept n other = Unit {0}

-- Wherever the circuit stands, x is the value of node n.
abbrev pub IsValue : Graph → Kept → ℕ → ℕ → Type 0
IsValue g kept n x = (t : Tree) (p : List ℕ) (state : State) (inputs : List ℕ) (v : Occurrence → ℕ) (row : NodeRow)
    → StandsAt t p v g kept.values → slice_get g.nodes n ≡ Some row → HasStateFor state p kept n row.node → x ≡ value t state inputs v p n row.node

-- ---- the same by the circuit alone

abbrev pub valuation : List BitVector → Occurrence → ℕ
valuation values s = number_at values s.node

abbrev pub no_state : State
no_state = record { registers = []; memories = [] }

-- the value of node n; an input and an output of an instance keep theirs
abbrev pub own_value : Graph → Kept → ℕ → Node → ℕ
own_value g kept n (Input port) = number_at kept.values n
own_value g kept n (InstOut i port) = number_at kept.values n
own_value g kept n (Reg next enable clear init) = number_at kept.registers n
own_value g kept n (Read m addr) = slice_index (numbers (words_at kept.memories m.0)) (number_at kept.values addr.0)
own_value g kept n other = value (leaf g) no_state [] (valuation kept.values) [] n other

abbrev pub own_vector : Graph → Kept → ℕ → NodeRow → BitVector
own_vector g kept n row = record { width = row.width; value = own_value g kept n row.node }

-- x is the value of node n, in its width
abbrev pub IsOwn : Graph → Kept → ℕ → BitVector → Type 0
IsOwn g kept n x = (row : NodeRow) × (slice_get g.nodes n ≡ Some row) × (x ≡ own_vector g kept n row)

-- an operand with its width
abbrev pub operand : Graph → List BitVector → NodeId → BitVector
operand g values id = record { width = width_of (slice_get g.nodes id.0); value = number_at values id.0 }

abbrev pub AreWithin : Graph → List NodeId → Type 0
AreWithin g ids = (id : NodeId) → Has ids id → id.0 < length g.nodes

-- the operator takes operands of these widths
abbrev pub IsTwo : Op2 → ℕ → ℕ → Type 0
IsTwo Mulu v w = v + w ≤ 128
IsTwo Muls v w = v + w ≤ 128
IsTwo op v w = v ≡ w

-- a word, or 0 in this width
abbrev pub word_or_zero : ℕ → Option BitVector → BitVector
word_or_zero width None = record { width = width; value = 0 }
word_or_zero width (Some word) = word
