use Rattle.std.proofs.Common.{◌≡◌, false, drop}
use Rattle.hc_values.specs.Edges.{initial_registers}
use Rattle.hc_values.specs.Rows.{node_widths, widths}
use Rattle.hc_values.proofs.registers.reset_each.Given as goal

abbrev pub invariant-clocked : goal.invariant-clocked
invariant-clocked l =
    (initial_registers l.circuit (drop l.id-index l.clocked) l.registers ≡ initial_registers l.circuit l.clocked l.initial.registers)
    × (widths l.registers ≡ node_widths l.circuit.nodes)
    × (l.changed ≡ false → l.registers ≡ l.initial.registers)
