use Rattle.std.proofs.Common.{◌≡◌, false, drop}
use Rattle.hc_values.specs.Edges.{written_all}
use Rattle.hc_values.proofs.memories.write_all.Given as goal

abbrev pub invariant-ports : goal.invariant-ports
invariant-ports l =
    (written_all l.circuit l.values (drop l.port-index l.ports) l.words ≡ written_all l.circuit l.values l.ports l.initial.words)
    × (l.changed ≡ false → l.words ≡ l.initial.words)
