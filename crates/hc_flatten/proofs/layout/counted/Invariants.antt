use Rattle.std.proofs.Common.{◌≡◌}
use Rattle.hc_canon.specs.Numbering.{count_from}
use Rattle.hc_flatten.proofs.layout.counted.Given as goal

abbrev pub invariant-numbers : goal.invariant-numbers
invariant-numbers l = l.made.items ≡ count_from l.first l.k
