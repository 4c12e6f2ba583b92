use Rattle.std.proofs.Common.{◌≡◌, ◌++◌, drop}
use Rattle.hc_canon.specs.Layout.{picked}
use Rattle.hc_canon.specs.Numbers.{renumbering}
use Rattle.hc_canon.proofs.renumber.pick.Given as goal

abbrev pub invariant-places : goal.invariant-places
invariant-places g l = l.all.items ++ picked (g.T.Renumber.renumbered (renumbering l.numbers)) l.rows (drop l.place-index l.places) ≡ l.initial.all.items ++ picked
    (g.T.Renumber.renumbered (renumbering l.numbers)) l.rows l.places
