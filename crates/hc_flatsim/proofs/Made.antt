-- The parts of a new simulator make one at the start.
use Rattle.std.proofs.Common.{◌≡◌, List, [], ◌∷◌, map, refl, sym, subst, ◌∙◌, ap}
use Rattle.std.specs.Prelude.{◌↔◌}
use Rattle.hc_bits.specs.BitVector.{BitVector}
use Rattle.hc_signal.specs.Member.{Has}
use Rattle.hc_signal.specs.declared.signal.MemId.{MemId}
use Rattle.hc_signal.specs.declared.signal.NodeId.{NodeId}
use Rattle.hc_signal.specs.declared.signal.NodeRow.{NodeRow}
use Rattle.hc_signal.specs.declared.signal.Port.{Port}
use Rattle.hc_signal.specs.Graph.{Graph, mem, Reached}
use Rattle.hc_signal.specs.Lawful.{IsLawful}
use Rattle.hc_signal.specs.Tree.{leaf}
use Rattle.hc_flatsim.specs.declared.known.Known.{Known}
use Rattle.hc_flatsim.specs.declared.known.Known.TheVariants.{Nothing}
use Rattle.hc_paths.specs.Digraph.{AllDifferent}
use Rattle.hc_paths.specs.Schedule.{IsSchedule}
use Rattle.hc_bench.specs.Trace.{IsAtStart}
use Rattle.hc_flatsim.specs.Machine.{Machine, IsMachine, IsFlatCircuit, IsKnown, numbers, registers_among, simulation_of, state_of, valuation, widths, node_widths}
use Rattle.hc_flatsim.specs.Edges.{initial_registers}
use Rattle.hc_flatsim.specs.Plan.{plan_of, planned}
use Rattle.hc_flatsim.specs.Starting.{zero_of, zeros_of_memory}
use Rattle.hc_flatsim.proofs.Started.{zero_rows, zero_ports, zero_memories, at_start}

abbrev pub zeros : List NodeRow → List BitVector
zeros rows = map (λ (row : NodeRow). zero_of row.width) rows

abbrev pub port_zeros : List Port → List BitVector
port_zeros ports = map (λ (p : Port). zero_of p.width) ports

planned_of : (g : Graph) (ids : List NodeId) → planned (plan_of g ids) ≡ ids
planned_of g [] = refl
planned_of g (id ∷ ids) = ap (λ (k : List NodeId). id ∷ k) (planned_of g ids)

module _ (m : Machine) (l : IsLawful m.graph) (flat : IsFlatCircuit m.graph) (order : List NodeId) (s : IsSchedule m.graph order)
    (order_is : m.order ≡ planned m.plan) (plan : m.plan ≡ plan_of m.graph order) (clocked : m.clocked ≡ registers_among m.graph order)
    (used : (id : MemId) → Has m.used id ↔ Reached m.graph (mem id.0)) (once : AllDifferent m.used)
    (values : m.values ≡ zeros m.graph.nodes) (registers : m.registers ≡ initial_registers m.graph m.clocked (zeros m.graph.nodes)) (register_widths : widths m.registers ≡ node_widths m.graph.nodes)
    (memories : m.memories ≡ map zeros_of_memory m.graph.memories) (inputs : m.inputs ≡ port_zeros m.graph.ports.inputs)
    (before : m.before ≡ port_zeros m.graph.ports.outputs) (after : m.after ≡ port_zeros m.graph.ports.outputs) (known : m.known ≡ Nothing) where
  same_order : order ≡ m.order
  same_order = sym (order_is ∙ ap planned plan ∙ planned_of m.graph order)

  pub made : IsMachine m
  made = record {
    lawful = l;
    flat = flat;
    schedule = subst (IsSchedule m.graph) same_order s;
    plan = plan ∙ ap (plan_of m.graph) same_order;
    clocked = clocked ∙ ap (registers_among m.graph) same_order;
    used = used;
    used_once = once;
    values = ap widths values ∙ zero_rows m.graph.nodes;
    registers = register_widths;
    memories = ap (map widths) memories ∙ zero_memories m.graph.memories;
    inputs = ap widths inputs ∙ zero_ports m.graph.ports.inputs;
    before = ap widths before ∙ zero_ports m.graph.ports.outputs;
    after = ap widths after ∙ zero_ports m.graph.ports.outputs;
    known = subst (λ (k : Known). IsKnown k (leaf m.graph) (state_of m) (numbers m.inputs) (valuation m.values)) (sym known) tt;
  }

  pub made_start : IsAtStart (simulation_of m)
  made_start = at_start m made (zeros m.graph.nodes) (zero_rows m.graph.nodes) registers memories inputs before after
