use Rattle.std.proofs.Common.{◌≡◌, false, drop}
use Rattle.hc_values.specs.Edges.{next_registers}
use Rattle.hc_values.specs.Rows.{node_widths, widths}
use Rattle.hc_values.proofs.registers.step_each.Given as goal

abbrev pub invariant-clocked : goal.invariant-clocked
invariant-clocked l =
    (next_registers l.circuit l.values (drop l.id-index l.clocked) l.registers ≡ next_registers l.circuit l.values l.clocked l.initial.registers)
    × (widths l.registers ≡ node_widths l.circuit.nodes)
    × (l.changed ≡ false → l.registers ≡ l.initial.registers)
