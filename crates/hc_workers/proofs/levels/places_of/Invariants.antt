use Rattle.std.proofs.Common.{◌≡◌, ◌++◌, drop}
use Rattle.hc_workers.specs.Levels.{places_from}
use Rattle.hc_workers.proofs.levels.places_of.Given as goal

abbrev pub invariant-rows : goal.invariant-rows
invariant-rows l = l.places.items ++ places_from l.height l.place (drop l.place l.rows) ≡ places_from l.height 0 l.rows
