use Rattle.std.proofs.Common.{◌≡◌, false, drop, map}
use Rattle.hc_values.specs.Edges.{next_memories}
use Rattle.hc_values.specs.Rows.{memory_widths, widths}
use Rattle.hc_values.proofs.memories.step_each.Given as goal

abbrev pub invariant-used : goal.invariant-used
invariant-used l =
    (next_memories l.circuit l.values (drop l.id-index l.used) l.memories ≡ next_memories l.circuit l.values l.used l.initial.memories)
    × (map widths l.memories ≡ map memory_widths l.circuit.memories)
    × (l.changed ≡ false → l.memories ≡ l.initial.memories)
