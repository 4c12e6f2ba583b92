use Rattle.std.proofs.Common.{◌≡◌, take}
use Rattle.hc_canon.proofs.equal.same_list.Given as goal

abbrev pub invariant-items : goal.invariant-items
invariant-items g l = take l.i l.a ≡ take l.i l.b
