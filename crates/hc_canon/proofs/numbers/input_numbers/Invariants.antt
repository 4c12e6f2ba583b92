use Rattle.std.proofs.Common.{◌≡◌, map, take}
use Rattle.hc_canon.specs.Numbers.{input_number}
use Rattle.hc_canon.proofs.numbers.input_numbers.Given as goal

abbrev pub invariant-rows : goal.invariant-rows
invariant-rows l = l.made.items ≡ map input_number (take l.row-index l.rows)
