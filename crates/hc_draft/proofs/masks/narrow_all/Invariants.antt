use Rattle.std.proofs.Common.{◌≡◌, drop}
use Rattle.hc_draft.specs.Needs.{narrowed}
use Rattle.hc_draft.proofs.masks.narrow_all.Given as goal

abbrev pub invariant-ids : goal.invariant-ids
invariant-ids l = narrowed l.within (drop l.id-index l.ids) l.masks.items ≡ narrowed l.within l.ids l.initial.masks.items
