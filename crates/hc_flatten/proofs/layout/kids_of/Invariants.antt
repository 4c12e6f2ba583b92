use Rattle.std.proofs.Common.{take}
use Rattle.hc_canon.specs.Numbers.{renumbering}
use Rattle.hc_flatten.specs.Flattened.{AreKidsAt}
use Rattle.hc_flatten.proofs.layout.kids_of.Given as goal

abbrev pub invariant-kids : goal.invariant-kids
invariant-kids l = AreKidsAt l.form (take l.i l.starts) (renumbering l.numbers) l.kids.items
