use Rattle.std.proofs.Common.{List, refl, ◌∙◌, ap}
use Rattle.hc_signal.specs.declared.signal.NodeId.{NodeId}
use Rattle.hc_signal.specs.declared.signal.Ports.{Ports}
use Rattle.hc_flatsim.specs.Edges.{initial_registers}
use Rattle.hc_flatsim.specs.declared.known.Known.TheVariants.{Nothing}
use Rattle.hc_flatsim.specs.Machine.{registers_among}
use Rattle.hc_flatsim.specs.Plan.{plan_of, planned}
use Rattle.hc_flatsim.proofs.Made.{made, made_start, zeros, port_zeros}
use Rattle.hc_flatsim.proofs.machine.FlatMachine.new.Goals as goal

pub invariant_of-result : goal.invariant_of-result
invariant_of-result c =
    made (record {
      graph = c.args.circuit.now;
      order = planned c.in_ok-plan.plan.items;
      plan = c.in_ok-plan.plan.items;
      clocked = c.in_ok-clocked.clocked.items;
      used =
          c.in_ok-used.used.items;
      values = c.in_ok-values.values.items;
      registers = c.in_ok-registers.registers.items;
      memories = c.in_ok-memories.memories.items;
      inputs =
          c.in_ok-inputs.inputs.items;
      before = c.in_ok-before.before.items;
      after = c.in_ok-after.after.items;
      known = Nothing;
    }) c.lawful.ensures
    (record { checked = c.requires.checked; instances = c.requires.instances; no_loop = c.requires.no_loop })
    c.in-Ok.order.items c.in-Ok.ensures.schedule refl (c.in_ok-plan.ensures ∙ ap (plan_of c.args.circuit.now) c.as_slice.ensures.value)
    (c.in_ok-clocked.ensures ∙ ap (registers_among c.args.circuit.now) c.as_slice-2.ensures.value) c.in_ok-used.ensures.each c.in_ok-used.ensures.once c.in_ok-values.ensures
    (c.in_ok-registers.ensures.value ∙ ap (λ (o : List NodeId). initial_registers c.args.circuit.now o (zeros c.args.circuit.now.nodes)) c.as_slice-3.ensures.value) c.in_ok-registers.ensures.widths
    c.in_ok-memories.ensures
    (c.in_ok-inputs.ensures ∙ ap port_zeros (c.as_slice-4.ensures ∙ ap (λ (p : Ports). p.inputs) c.ports-ports.ensures))
    (c.in_ok-before.ensures ∙ ap port_zeros (c.as_slice-5.ensures ∙ ap (λ (p : Ports). p.outputs) c.ports-ports.ensures))
    (c.in_ok-after.ensures ∙ ap port_zeros (c.as_slice-6.ensures ∙ ap (λ (p : Ports). p.outputs) c.ports-ports.ensures)) refl

pub returns-clause-start : goal.returns-clause-start
returns-clause-start c =
    made_start (record {
      graph = c.args.circuit.now;
      order = planned c.in_ok-plan.plan.items;
      plan = c.in_ok-plan.plan.items;
      clocked = c.in_ok-clocked.clocked.items;
      used =
          c.in_ok-used.used.items;
      values = c.in_ok-values.values.items;
      registers = c.in_ok-registers.registers.items;
      memories = c.in_ok-memories.memories.items;
      inputs =
          c.in_ok-inputs.inputs.items;
      before = c.in_ok-before.before.items;
      after = c.in_ok-after.after.items;
      known = Nothing;
    }) c.lawful.ensures
    (record { checked = c.requires.checked; instances = c.requires.instances; no_loop = c.requires.no_loop })
    c.in-Ok.order.items c.in-Ok.ensures.schedule refl (c.in_ok-plan.ensures ∙ ap (plan_of c.args.circuit.now) c.as_slice.ensures.value)
    (c.in_ok-clocked.ensures ∙ ap (registers_among c.args.circuit.now) c.as_slice-2.ensures.value) c.in_ok-used.ensures.each c.in_ok-used.ensures.once c.in_ok-values.ensures
    (c.in_ok-registers.ensures.value ∙ ap (λ (o : List NodeId). initial_registers c.args.circuit.now o (zeros c.args.circuit.now.nodes)) c.as_slice-3.ensures.value) c.in_ok-registers.ensures.widths
    c.in_ok-memories.ensures
    (c.in_ok-inputs.ensures ∙ ap port_zeros (c.as_slice-4.ensures ∙ ap (λ (p : Ports). p.inputs) c.ports-ports.ensures))
    (c.in_ok-before.ensures ∙ ap port_zeros (c.as_slice-5.ensures ∙ ap (λ (p : Ports). p.outputs) c.ports-ports.ensures))
    (c.in_ok-after.ensures ∙ ap port_zeros (c.as_slice-6.ensures ∙ ap (λ (p : Ports). p.outputs) c.ports-ports.ensures)) refl
