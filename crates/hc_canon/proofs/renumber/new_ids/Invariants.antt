use Rattle.std.proofs.Common.{◌≡◌, map, take}
use Rattle.hc_signal.specs.Renumber.{id_by}
use Rattle.hc_canon.specs.Numbers.{renumbering}
use Rattle.hc_canon.proofs.renumber.new_ids.Given as goal

abbrev pub invariant-ids : goal.invariant-ids
invariant-ids l = l.made.items ≡ map (id_by (renumbering l.numbers)) (take l.id-index l.ids)
