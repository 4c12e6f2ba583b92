-- The statement `inst`: a circuit, its arguments, its heads, and a connection for each input.
use Rattle.std.specs.Prelude.{ℕ, ◌==◌, Bool, false, is_some, if◌then◌else◌, List, [], ◌∷◌, ◌++◌, length, replicate, slice_get, slice_set, position, Option, Some, None, Result, Ok, Err, ℤ}
use Rattle.std.specs.Str.{bytes_eq}
use Rattle.hc_fault.specs.declared.fault.FaultKind.{FaultKind}
use Rattle.hc_fault.specs.declared.fault.FaultKind.TheVariants.{UnknownCircuit, ArgCount, UnknownPort, RepeatedPort, MissingPort, WidthMismatch}
use Rattle.hc_fault.specs.declared.fault.Ident.{Ident}
use Rattle.hc_lang.specs.declared.tree.CircuitText.{CircuitText}
use Rattle.hc_lang.specs.declared.tree.Design.{Design}
use Rattle.hc_num.specs.Value.{Outcome}
use Rattle.hc_signal.specs.declared.signal.NodeId.{NodeId}
use Rattle.hc_signal.specs.declared.signal.InstId.{InstId}
use Rattle.hc_signal.specs.declared.signal.Port.{Port}
use Rattle.hc_signal.specs.declared.signal.Ports.{Ports}
use Rattle.hc_signal.specs.Graph.{Graph}
use Rattle.hc_signal.specs.Builds.{output_rows, width_at}
use Rattle.hc_unfold.specs.Signals.{Place, Signal}
use Rattle.hc_unfold.specs.Names.{Key}
use Rattle.hc_unfold.specs.declared.names.Target.TheVariants as target
use Rattle.hc_unfold.specs.Drawing.{Draws, and_then, found}
use Rattle.hc_unfold.specs.Places.{key, numbers}
use Rattle.hc_unfold.specs.Outputs.{port_place}
use Rattle.hc_statements.specs.declared.kinds.Call.{Call}
use Rattle.hc_statements.specs.Unrolled.{Text}
use Rattle.hc_statements.specs.PortWidths.{PortWidths, port_widths, inputs_of, ports_of}
use Rattle.hc_statements.specs.Steps.{Steps, Inside, ◌>>=◌, ◌>>◌, answer, given, rule, draw, is_new, bind, add_child}
use Rattle.hc_statements.specs.Statements.{signal_node}

-- the place of a circuit among the circuits of the design
abbrev pub circuit_place : List CircuitText → Text → Option ℕ
circuit_place cs name = position (λ (c : CircuitText). bytes_eq c.name name) cs

abbrev pub ident_of : Key → Ident
ident_of k = record { name = k.0; index = k.1 }

-- a fault in the heads of an instance's circuit is that circuit's
abbrev pub widths_of : Key → PortWidths → Steps (List ℕ)
widths_of k (Ok ws) = answer ws
widths_of k (Err f) = λ e. Err (Inside (ident_of k) f.0 f.1)

-- ---- connections: for each input the node, once it is connected

abbrev pub Connected : Type 0
Connected = List (Option NodeId)

abbrev pub unconnected : List Port → Connected
unconnected ins = replicate (length ins) None

abbrev pub is_connected : Option (Option NodeId) → Bool
is_connected None = false
is_connected (Some x) = is_some x

abbrev pub width_of_port : Option Port → ℕ
width_of_port None = 0
width_of_port (Some p) = p.width

-- the place of the input of this name, which is not connected before
abbrev pub open_place : List Port → Connected → Text → Result ℕ FaultKind
open_place ins done name = and_then (found UnknownPort (port_place name ins)) (λ at. if is_connected (slice_get done at) then Err RepeatedPort else Ok at)

abbrev pub fits : Graph → List Port → ℕ → NodeId → Bool
fits g ins at id = width_at g id == width_of_port (slice_get ins at)

abbrev pub has_width : List Port → ℕ → NodeId → Steps (Unit {0})
has_width ins at id = λ e. rule WidthMismatch (fits e.graph ins at id) e

abbrev pub connect : List Port → Connected → Text × Signal → Steps Connected
connect ins done c = do
  id ← signal_node c.1
  at ← given (open_place ins done c.0)
  has_width ins at id
  answer (slice_set done at (Some id))

abbrev pub connections : List Port → Connected → List (Text × Signal) → Steps Connected
connections ins done [] = answer done
connections ins done (c ∷ cs) = connect ins done c >>= (λ more. connections ins more cs)

abbrev pub put_before : Option NodeId → Result (List NodeId) FaultKind → Result (List NodeId) FaultKind
put_before None rest = Err MissingPort
put_before (Some id) (Ok ids) = Ok (id ∷ ids)
put_before (Some id) (Err kind) = Err kind

-- the nodes in the order of the inputs, or the fault of an input that is not connected
abbrev pub all_connected : Connected → Result (List NodeId) FaultKind
all_connected [] = Ok []
all_connected (o ∷ os) = put_before o (all_connected os)

-- the node of each input, in their order
abbrev pub connected_from : List Port → Connected → List (Text × Signal) → Steps (List NodeId)
connected_from ins done conns = connections ins done conns >>= (λ more. given (all_connected more))

abbrev pub connected : List Port → List (Text × Signal) → Steps (List NodeId)
connected ins conns = connected_from ins (unconnected ins) conns

-- ---- the instance

abbrev pub next_instance : Graph → InstId
next_instance g = record { 0 = length g.instances }

-- one instance more, and a node for each of its outputs
abbrev pub instance : Ports → List NodeId → Draws InstId
instance ports conns = λ g. Ok (
  record g {
    nodes = g.nodes ++ output_rows (length g.instances) 0 ports.outputs;
    instances = g.instances
        ++ record { ports = ports; conns = conns; label = None } ∷ [];
  },
  next_instance g,
)

-- an instance under a new name, with its call
abbrev pub placed : Key → ℕ → Call → Ports → List NodeId → Steps (Unit {0})
placed k line call ports inputs = do
  is_new k
  id ← draw (instance ports inputs)
  add_child (record { call = call; ident = ident_of k; line = line })
  bind k (target.Instance id)

-- an instance of a circuit whose heads have these widths
abbrev pub with_widths : Key → ℕ → ℕ → CircuitText → List ℤ → List (Text × Signal) → List ℕ → Steps (Unit {0})
with_widths k line place c args conns widths = do
  inputs ← connected (inputs_of c.heads widths) conns
  placed k line (record { circuit = place; args = args }) (ports_of c.heads widths) inputs

-- the heads of the circuit, and then the instance
abbrev pub instantiated : Key → ℕ → ℕ → CircuitText → List ℤ → List (Text × Signal) → Steps (Unit {0})
instantiated k line place c args conns = widths_of k (port_widths c args) >>= with_widths k line place c args conns

-- the count of the arguments, and their values
abbrev pub arguments : CircuitText → List Outcome → Result (List ℤ) FaultKind
arguments c ns = if length ns == length c.params then numbers ns else Err ArgCount

module _ (d : Design) where
  abbrev pub circuit_at : Option ℕ → Result (ℕ × CircuitText) FaultKind
  circuit_at None = Err UnknownCircuit
  circuit_at (Some at) = and_then (found UnknownCircuit (slice_get d.circuits at)) (λ c. Ok (at, c))

  abbrev pub inst_step : ℕ → Place → Text → List Outcome → List (Text × Signal) → Steps (Unit {0})
  inst_step line p of ns conns = do
    k ← given (key p)
    c ← given (circuit_at (circuit_place d.circuits of))
    args ← given (arguments c.1 ns)
    instantiated k line c.0 c.1 args conns
