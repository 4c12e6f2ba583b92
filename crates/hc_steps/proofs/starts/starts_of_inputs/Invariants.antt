use Rattle.std.proofs.Common.{◌≡◌, ◌++◌, drop}
use Rattle.hc_steps.specs.Views.{conns_end, conns_start}
use Rattle.hc_steps.proofs.starts.starts_of_inputs.Given as goal

abbrev pub invariant-each : goal.invariant-each
invariant-each l = (l.starts.items ++ conns_start l.at (drop l.it-index l.circuit.instances) ≡ conns_start 0 l.circuit.instances)
    × (conns_end l.at (drop l.it-index l.circuit.instances) ≡ conns_end 0 l.circuit.instances)
