use Rattle.std.proofs.Common.{◌≡◌, take}
use Rattle.hc_canon.proofs.renumber.port_list.Given as goal

abbrev pub invariant-ports : goal.invariant-ports
invariant-ports l = l.made.items ≡ take l.port-index l.ports
