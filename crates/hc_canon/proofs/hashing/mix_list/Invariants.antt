use Rattle.std.proofs.Common.{◌≡◌, drop, length}
use Rattle.std.specs.Prelude.{fold}
use Rattle.hc_canon.specs.Hashing.{mix, mix_list}
use Rattle.hc_canon.proofs.hashing.mix_list.Given as goal

abbrev pub invariant-items : goal.invariant-items
invariant-items g l = fold g.T.Hashed.mixed l.hash (drop l.item-index l.items) ≡ mix_list g.T.Hashed.mixed l.fn.hash l.items
