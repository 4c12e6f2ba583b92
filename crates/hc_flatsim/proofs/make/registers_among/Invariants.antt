use Rattle.std.proofs.Common.{◌≡◌, ◌++◌, drop}
use Rattle.hc_flatsim.specs.Machine.{registers_among}
use Rattle.hc_flatsim.proofs.make.registers_among.Given as goal

abbrev pub invariant-order : goal.invariant-order
invariant-order l = l.ids.items ++ registers_among l.circuit (drop l.id-index l.order) ≡ registers_among l.circuit l.order
