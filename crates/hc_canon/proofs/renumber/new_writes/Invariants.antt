use Rattle.std.proofs.Common.{◌≡◌, map, take}
use Rattle.hc_signal.specs.Renumber.{write_by}
use Rattle.hc_canon.specs.Numbers.{renumbering}
use Rattle.hc_canon.proofs.renumber.new_writes.Given as goal

abbrev pub invariant-writes : goal.invariant-writes
invariant-writes l = l.made.items ≡ map (write_by (renumbering l.numbers)) (take l.write-index l.writes)
