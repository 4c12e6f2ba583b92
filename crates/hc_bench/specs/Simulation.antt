-- The settled values of a cycle, the clock edge, and the initial state.
use Rattle.std.specs.Prelude.{◌≡◌, ℕ, ◌↔◌, Bool, true, ◌&&◌, ◌==◌, if◌then◌else◌, nat_eq, List, [], ◌∷◌, map, length, replicate, slice_get, slice_index, Option, Some, None}
use Rattle.std.specs.List.{enumerate_from}
use Rattle.std.specs.Cmp.Lexicographic.{pointwise}
use Rattle.hc_bits.specs.BitVector.{BitVector, not_, select, cat_all, mux}
use Rattle.hc_bits.specs.Catalogue.{operation}
use Rattle.hc_signal.specs.Member.{Has}
use Rattle.hc_signal.specs.declared.signal.NodeId.{NodeId}
use Rattle.hc_signal.specs.declared.signal.NodeRow.{NodeRow}
use Rattle.hc_signal.specs.declared.signal.Port.{Port}
use Rattle.hc_signal.specs.declared.signal.Memory.{Memory}
use Rattle.hc_signal.specs.declared.signal.WritePort.{WritePort}
use Rattle.hc_signal.specs.declared.signal.Node.{Node}
use Rattle.hc_signal.specs.declared.signal.Node.TheVariants.{Input, Wire, Const, Two, Not, Mux, Cat, Select, Reg, Read, InstOut, Op}
use Rattle.hc_signal.specs.Operators.{binary}
use Rattle.hc_signal.specs.Graph.{mem, Reached}
use Rattle.hc_signal.specs.Tree.{Tree, graph}
use Rattle.hc_signal.specs.Occurrences.{Occurrence, graph_at, row_at, connection, IsReachedPath, IsReachedOccurrence}

-- the value of each register, and the words of each memory
pub record State : Type 0 where
  pub registers : List (Occurrence × ℕ)
  pub memories : List (Occurrence × List ℕ)

abbrev pub same_occurrence : Occurrence → Occurrence → Bool
same_occurrence s r = pointwise nat_eq s.path r.path && (s.node == r.node)

-- what a list of pairs has for an occurrence, else d
abbrev pub look_up : {X : Type 0} → X → List (Occurrence × X) → Occurrence → X
look_up d [] s = d
look_up d (e ∷ es) s = if same_occurrence e.0 s then e.1 else look_up d es s

abbrev pub register_value : State → Occurrence → ℕ
register_value state s = look_up 0 state.registers s

abbrev pub memory_words : State → Occurrence → List ℕ
memory_words state s = look_up [] state.memories s

-- ---- settled values

-- the value of an operand under v, and with its width
abbrev pub width_of : Option NodeRow → ℕ
width_of None = 0
width_of (Some row) = row.width

abbrev pub value_at : (Occurrence → ℕ) → List ℕ → NodeId → ℕ
value_at v path id = v (record { path = path; node = id.0 })

abbrev pub vector_at : Tree → (Occurrence → ℕ) → List ℕ → NodeId → BitVector
vector_at t v path id = record { width = width_of (slice_get (graph_at t path).nodes id.0); value = value_at v path id }

abbrev pub optional_value : (Occurrence → ℕ) → List ℕ → Option NodeId → ℕ
optional_value v path None = 0
optional_value v path (Some id) = value_at v path id

-- the value of an input: of the top, or of the connection of its instance
abbrev pub input_value : Tree → List ℕ → (Occurrence → ℕ) → List ℕ → ℕ → ℕ
input_value t inputs v [] port = slice_index inputs port
input_value t inputs v (i ∷ path) port = optional_value v path (connection (graph_at t path) i port)

-- The value of a node, where v gives the values of the others.
abbrev pub value : Tree → State → List ℕ → (Occurrence → ℕ) → List ℕ → ℕ → Node → ℕ
value t state inputs v path n (Input port) = input_value t inputs v path port
value t state inputs v path n (InstOut i port) = optional_value v (i.0 ∷ path) (slice_get (graph_at t (i.0 ∷ path)).outputs port)
value t state inputs v path n (Wire driver) = optional_value v path driver
value t state inputs v path n (Const c) = c.value
value t state inputs v path n (Two op a b) = (binary op (vector_at t v path a) (vector_at t v path b)).value
value t state inputs v path n (Not a) = (not_ (vector_at t v path a)).value
value t state inputs v path n (Mux sel cases) = (mux (vector_at t v path sel) (map (vector_at t v path) cases)).value
value t state inputs v path n (Cat parts) = (cat_all (map (vector_at t v path) parts)).value
value t state inputs v path n (Select a hi lo) = (select (vector_at t v path a) hi lo).value
value t state inputs v path n (Reg next enable clear init) = register_value state (record { path = path; node = n })
value t state inputs v path n (Read m addr) = slice_index (memory_words state (record { path = path; node = m.0 })) (value_at v path addr)
value t state inputs v path n (Op kind args) = (operation kind (map (vector_at t v path) args)).value

-- v gives each reached node its value
abbrev pub IsSettled : Tree → State → List ℕ → (Occurrence → ℕ) → Type 0
IsSettled t state inputs v = (s : Occurrence) (row : NodeRow) → IsReachedOccurrence t s → row_at t s ≡ Some row → v s ≡ value t state inputs v s.path s.node row.node

-- the values of the outputs
abbrev pub outputs_of : Tree → (Occurrence → ℕ) → List ℕ
outputs_of t v = map (value_at v []) (graph t).outputs

-- ---- states

abbrev pub IsRegister : Tree → Occurrence → Type 0
IsRegister t s = (row : NodeRow) × (next : NodeId) × (enable : Option NodeId) × (clear : Option (NodeId × BitVector)) × (init : BitVector) × IsReachedOccurrence t s
    × (row_at t s ≡ Some row) × (row.node ≡ Reg next enable clear init)

abbrev pub IsMemory : Tree → Occurrence → ℕ → Type 0
IsMemory t s size = (m : Memory) × IsReachedPath t s.path × Reached (graph_at t s.path) (mem s.node) × (slice_get (graph_at t s.path).memories s.node ≡ Some m) × (m.size ≡ size)

-- Each reached register and memory stands in the state once, and nothing else does; a memory has as many words as its size.
pub record IsStateOf (t : Tree) (state : State) : Type 0 where
  pub registers : (s : Occurrence) → IsRegister t s ↔ ((x : ℕ) × Has state.registers (s, x))
  pub register_once : (i j : ℕ) (s : Occurrence) (x y : ℕ) → slice_get state.registers i ≡ Some (s, x) → slice_get state.registers j ≡ Some (s, y) → i ≡ j
  pub memories : (s : Occurrence) (size : ℕ) → IsMemory t s size ↔ ((words : List ℕ) × Has state.memories (s, words) × (length words ≡ size))
  pub memory_once : (i j : ℕ) (s : Occurrence) (x y : List ℕ) → slice_get state.memories i ≡ Some (s, x) → slice_get state.memories j ≡ Some (s, y) → i ≡ j

-- ---- the clock edge

-- an absent enable is on
abbrev pub is_enabled : (Occurrence → ℕ) → List ℕ → Option NodeId → Bool
is_enabled v path None = true
is_enabled v path (Some id) = value_at v path id == 1

abbrev pub cleared : (Occurrence → ℕ) → List ℕ → Option (NodeId × BitVector) → ℕ → ℕ
cleared v path None otherwise = otherwise
cleared v path (Some c) otherwise = if value_at v path c.0 == 1 then c.1.value else otherwise

-- the value of a register after the edge: a clear comes before an enable
abbrev pub next_value : (Occurrence → ℕ) → List ℕ → Node → ℕ → ℕ
next_value v path (Reg next enable clear init) old = cleared v path clear (if is_enabled v path enable then value_at v path next else old)
next_value v path other old = old

abbrev pub next_register : Tree → (Occurrence → ℕ) → Occurrence × ℕ → Occurrence × ℕ
next_register t v e = (e.0, by_row (row_at t e.0))
  where
    by_row : Option NodeRow → ℕ
    by_row None = e.1
    by_row (Some row) = next_value v e.0.path row.node e.1

-- the word at a place after the edge: that of the last write port that is enabled and has this address, else the old one
abbrev pub word_after : (Occurrence → ℕ) → List ℕ → List WritePort → ℕ → ℕ → ℕ
word_after v path [] place old = old
word_after v path (w ∷ ws) place old = word_after v path ws place (if ((value_at v path w.enable == 1) && (value_at v path w.addr == place)) then value_at v path w.value else old)

abbrev pub next_memory : Tree → (Occurrence → ℕ) → Occurrence × List ℕ → Occurrence × List ℕ
next_memory t v e = (e.0, by_memory (slice_get (graph_at t e.0.path).memories e.0.node))
  where
    by_memory : Option Memory → List ℕ
    by_memory None = e.1
    by_memory (Some m) = map (λ (p : ℕ × ℕ). word_after v e.0.path m.writes p.0 p.1) (enumerate_from 0 e.1)

abbrev pub clock_edge : Tree → (Occurrence → ℕ) → State → State
clock_edge t v state = record { registers = map (next_register t v) state.registers; memories = map (next_memory t v) state.memories }

-- ---- initial values

abbrev pub initial_register : Tree → Occurrence × ℕ → Occurrence × ℕ
initial_register t e = (e.0, by_row (row_at t e.0))
  where
    by_node : Node → ℕ
    by_node (Reg next enable clear init) = init.value
    by_node other = 0

    by_row : Option NodeRow → ℕ
    by_row None = 0
    by_row (Some row) = by_node row.node

-- all registers have their initial values; the memories stay
abbrev pub reset : Tree → State → State
reset t state = record { registers = map (initial_register t) state.registers; memories = state.memories }

-- all registers have their initial values, and all words are 0
pub record IsInitialState (t : Tree) (state : State) : Type 0 where
  pub whole : IsStateOf t state
  pub registers : map (initial_register t) state.registers ≡ state.registers
  pub words : (s : Occurrence) (words : List ℕ) → Has state.memories (s, words) → words ≡ replicate (length words) 0

-- all inputs are 0
abbrev pub initial_inputs : Tree → List ℕ
initial_inputs t = map (λ (p : Port). 0) (graph t).ports.inputs
