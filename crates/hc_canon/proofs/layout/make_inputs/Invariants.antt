use Rattle.std.proofs.Common.{◌≡◌, ◌++◌, drop}
use Rattle.hc_canon.specs.Layout.{input_rows}
use Rattle.hc_canon.proofs.layout.make_inputs.Given as goal

abbrev pub invariant-ports : goal.invariant-ports
invariant-ports l = l.made.items ++ input_rows l.k (drop l.k l.ports) ≡ input_rows 0 l.ports
