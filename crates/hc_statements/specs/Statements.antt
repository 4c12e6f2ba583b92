-- Heads and plain statements: what each adds to a body under way, with its rules in their order.
use Rattle.std.specs.Prelude.{ℕ, false, ◌++◌, if◌then◌else◌, List, [], ◌∷◌, length, slice_get, Option, Some, None, ℤ, nat_abs}
use Rattle.hc_fault.specs.declared.fault.FaultKind.TheVariants.{UnknownName}
use Rattle.hc_lang.specs.declared.tree.Head.{Head}
use Rattle.hc_num.specs.Value.{Outcome}
use Rattle.hc_signal.specs.declared.signal.NodeId.{NodeId}
use Rattle.hc_signal.specs.declared.signal.MemId.{MemId}
use Rattle.hc_signal.specs.declared.signal.Memory.{Memory}
use Rattle.hc_signal.specs.declared.signal.NodeRow.{NodeRow}
use Rattle.hc_signal.specs.declared.signal.Node.TheVariants as node
use Rattle.hc_signal.specs.Graph.{Graph}
use Rattle.hc_signal.specs.Rules.{drive_rule, size_rule, write_rule, label_rule}
use Rattle.hc_signal.specs.Builds.{with_row, unlabelled, port, width_at, memory_width_at, is_wire, is_driven_at, with_driver, with_write, is_port_node, has_node_label, has_memory_label, has_instance_label, with_node_label, with_memory_label, with_instance_label}
use Rattle.hc_unfold.specs.Signals.{Place, Signal}
use Rattle.hc_unfold.specs.Names.{Key, meaning, as_node, as_memory}
use Rattle.hc_unfold.specs.declared.names.Target.{Target}
use Rattle.hc_unfold.specs.declared.names.Target.TheVariants as target
use Rattle.hc_unfold.specs.Drawing.{Draws, adds, next, unless, and_then, as_width}
use Rattle.hc_unfold.specs.Places.{key}
use Rattle.hc_unfold.specs.Nodes.{node_of}
use Rattle.hc_statements.specs.Unrolled.{Text}
use Rattle.hc_statements.specs.Registers.{register}
use Rattle.hc_statements.specs.Steps.{Elaborating, Steps, ◌>>=◌, ◌>>◌, answer, given, demand, draw, change, meaning_of, is_new, bind, define, declare, with_graph}

-- ---- heads

abbrev pub with_input : Graph → Text → ℕ → Graph
with_input g name w = with_row (record g { ports = record { inputs = g.ports.inputs ++ port name w ∷ []; outputs = g.ports.outputs } }) (unlabelled w (node.Input (length g.ports.inputs)))

abbrev pub with_output : Graph → Text → ℕ → Graph
with_output g name w = with_row (record g { ports = record { inputs = g.ports.inputs; outputs = g.ports.outputs ++ port name w ∷ [] }; outputs = g.outputs ++ next g ∷ [] })
    (unlabelled w (node.Wire None))

abbrev pub named : Elaborating → Text → Elaborating
named e name = record e { names = e.names ++ ((name, None), target.Node (next e.graph)) ∷ [] }

-- an output is a wire, declared on its line
abbrev pub declared : Elaborating → ℕ → Elaborating
declared e line = record e { declared = e.declared ++ (next e.graph, line) ∷ [] }

abbrev pub open_input : Elaborating → Text → ℕ → Elaborating
open_input e name w = with_graph (named e name) (with_input e.graph name w)

abbrev pub open_output : Elaborating → ℕ → Text → ℕ → Elaborating
open_output e line name w = with_graph (named (declared e line) name) (with_output e.graph name w)

abbrev pub open_head : Head → ℕ → Elaborating → Elaborating
open_head h w e = if h.is_input then open_input e h.name w else open_output e h.line h.name w

-- a node for each head, in order
abbrev pub open_heads : List Head → List ℕ → Elaborating → Elaborating
open_heads [] ws e = e
open_heads (h ∷ hs) [] e = e
open_heads (h ∷ hs) (w ∷ ws) e = open_heads hs ws (open_head h w e)

-- ---- parts of statements

-- the node of a signal
abbrev pub signal_node : Signal → Steps NodeId
signal_node s = λ e. draw (node_of e.names s) e

abbrev pub optional : {A B : Type 0} → (A → Steps B) → Option A → Steps (Option B)
optional f None = answer None
optional f (Some x) = f x >>= (λ y. answer (Some y))

-- the wire that a node is
abbrev pub wire_in : Option NodeRow → NodeId → Option NodeId
wire_in None id = None
wire_in (Some row) id = if is_wire row.node then Some id else None

abbrev pub as_wire : Graph → Option NodeId → Option NodeId
as_wire g None = None
as_wire g (Some id) = wire_in (slice_get g.nodes id.0) id

abbrev pub wire_named : Key → Steps NodeId
wire_named k = λ e. demand UnknownName (as_wire e.graph (as_node (meaning e.names k))) e

abbrev pub memory_named : Key → Steps MemId
memory_named k = λ e. demand UnknownName (as_memory (meaning e.names k)) e

-- ---- statements

abbrev pub let_step : Place → Signal → Steps (Unit {0})
let_step p s = do
  k ← given (key p)
  id ← signal_node s
  define k (target.Node id)

abbrev pub wire : ℕ → Draws NodeId
wire w = adds None w (node.Wire None)

abbrev pub wire_step : ℕ → Place → Outcome → Steps (Unit {0})
wire_step line p width = do
  k ← given (key p)
  w ← given (and_then width as_width)
  is_new k
  id ← draw (wire w)
  declare id line
  bind k (target.Node id)

abbrev pub drive : NodeId → NodeId → Steps (Unit {0})
drive id from = change (λ g. drive_rule (width_at g id) (width_at g from) (is_driven_at g id)) (λ g. with_driver g id from)

abbrev pub assign_step : Place → Signal → Steps (Unit {0})
assign_step p s = do
  k ← given (key p)
  id ← wire_named k
  from ← signal_node s
  drive id from

abbrev pub put_label : Text → Target → Steps (Unit {0})
put_label w (target.Node id) = change (λ g. label_rule (has_node_label g id) (is_port_node g id)) (λ g. with_node_label g id w)
put_label w (target.Memory id) = change (λ g. label_rule (has_memory_label g id) false) (λ g. with_memory_label g id w)
put_label w (target.Instance id) = change (λ g. label_rule (has_instance_label g id) false) (λ g. with_instance_label g id w)

abbrev pub label_step : Place → Text → Steps (Unit {0})
label_step p w = do
  k ← given (key p)
  t ← meaning_of k
  labelled ← demand UnknownName t
  put_label w labelled

-- ---- registers

abbrev pub clear_part : Signal × Outcome → Steps (NodeId × ℤ)
clear_part c = do
  id ← signal_node c.0
  n ← given c.1
  answer (id, n)

abbrev pub reg_step : Place → Signal → Option Signal → Option (Signal × Outcome) → Option Outcome → Steps (Unit {0})
reg_step p s e c n = do
  k ← given (key p)
  next ← signal_node s
  enable ← optional signal_node e
  clear ← optional clear_part c
  first ← optional given n
  is_new k
  id ← draw (register next enable clear first)
  bind k (target.Node id)

-- ---- memories

abbrev pub memory : ℕ → ℕ → Memory
memory size width = record { size = size; width = width; writes = []; label = None }

abbrev pub next_memory : Graph → MemId
next_memory g = record { 0 = length g.memories }

abbrev pub new_memory : ℤ → ℕ → Draws MemId
new_memory size w = λ g. unless (size_rule size) (record g { memories = g.memories ++ memory (nat_abs size) w ∷ [] }, next_memory g)

abbrev pub memory_step : Place → Outcome → Outcome → Steps (Unit {0})
memory_step p size width = do
  k ← given (key p)
  n ← given size
  z ← given width
  w ← given (as_width z)
  is_new k
  id ← draw (new_memory n w)
  bind k (target.Memory id)

abbrev pub write : MemId → NodeId → NodeId → NodeId → Steps (Unit {0})
write id enable addr value = change (λ g. write_rule (width_at g enable) (width_at g value) (memory_width_at g id)) (λ g. with_write g id (record { enable = enable; addr = addr; value = value }))

abbrev pub write_step : Place → Signal → Signal → Signal → Steps (Unit {0})
write_step p e a v = do
  k ← given (key p)
  id ← memory_named k
  enable ← signal_node e
  addr ← signal_node a
  value ← signal_node v
  write id enable addr value
