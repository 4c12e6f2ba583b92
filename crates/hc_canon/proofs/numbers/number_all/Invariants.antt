use Rattle.std.proofs.Common.{◌≡◌, ◌+◌, drop}
use Rattle.hc_canon.specs.Numbers.{numbered}
use Rattle.hc_canon.proofs.numbers.number_all.Given as goal

abbrev pub invariant-order : goal.invariant-order
invariant-order l = numbered l.table.items (l.start + l.i) (drop l.i l.order) ≡ numbered l.initial.table.items l.start l.order
