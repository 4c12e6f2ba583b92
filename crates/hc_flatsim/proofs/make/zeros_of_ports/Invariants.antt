use Rattle.std.proofs.Common.{◌≡◌, take, map}
use Rattle.hc_signal.specs.declared.signal.Port.{Port}
use Rattle.hc_flatsim.specs.Starting.{zero_of}
use Rattle.hc_flatsim.proofs.make.zeros_of_ports.Given as goal

abbrev pub invariant-ports : goal.invariant-ports
invariant-ports l = l.values.items ≡ map (λ (p : Port). zero_of p.width) (take l.port-index l.ports)
