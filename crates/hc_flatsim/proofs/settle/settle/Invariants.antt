use Rattle.std.proofs.Common.{◌≡◌, drop}
use Rattle.hc_flatsim.specs.Machine.{node_widths, widths}
use Rattle.hc_flatsim.specs.Plan.{planned}
use Rattle.hc_flatsim.specs.Settling.{settled}
use Rattle.hc_flatsim.proofs.settle.settle.Given as goal

abbrev pub invariant-plan : goal.invariant-plan
invariant-plan g l =
    (settled l.circuit (record { registers = l.registers; memories = l.memories; inputs = l.inputs }) (planned (drop l.step-index l.plan)) l.values
    ≡ settled l.circuit (record { registers = l.registers; memories = l.memories; inputs = l.inputs }) (planned l.plan) l.initial.values)
    × (widths l.values ≡ node_widths l.circuit.nodes)
