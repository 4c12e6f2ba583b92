use Rattle.std.proofs.Common.{◌≡◌, drop}
use Rattle.hc_flatsim.specs.Edges.{initial_registers}
use Rattle.hc_flatsim.specs.Machine.{node_widths, widths}
use Rattle.hc_flatsim.proofs.edges.reset_registers.Given as goal

abbrev pub invariant-clocked : goal.invariant-clocked
invariant-clocked l =
    (initial_registers l.circuit (drop l.id-index l.clocked) l.registers ≡ initial_registers l.circuit l.clocked l.initial.registers)
    × (widths l.registers ≡ node_widths l.circuit.nodes)
