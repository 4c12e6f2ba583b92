use Rattle.std.proofs.Common.{◌≡◌, take}
use Rattle.hc_flatten.proofs.flattening.ids_copy.Given as goal

abbrev pub invariant-ids : goal.invariant-ids
invariant-ids l = l.made.items ≡ take l.id-index l.ids
