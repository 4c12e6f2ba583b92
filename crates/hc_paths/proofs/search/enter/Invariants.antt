use Rattle.std.proofs.Common.{◌≡◌, drop}
use Rattle.hc_paths.specs.Search.{entered}
use Rattle.hc_paths.proofs.search.enter.Given as goal

abbrev pub invariant-ids : goal.invariant-ids
invariant-ids l = entered (drop l.id-index l.ids) l.stack ≡ entered l.ids l.initial.stack
