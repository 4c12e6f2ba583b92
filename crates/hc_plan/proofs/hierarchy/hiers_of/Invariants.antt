use Rattle.std.proofs.Common.{◌≡◌, map, take}
use Rattle.std.specs.Prelude.{Some, slice_get}
use Rattle.hc_plan.specs.Hierarchies.{views_of}
use Rattle.hc_plan.proofs.hierarchy.hiers_of.Given as goal

abbrev pub invariant-kids : goal.invariant-kids
invariant-kids l = map Some (views_of l.found) ≡ map (slice_get (views_of l.hiers)) (take l.kid-index l.kids)
