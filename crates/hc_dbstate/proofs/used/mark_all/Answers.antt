use Rattle.std.proofs.Common.{arith}
use Rattle.hc_dbstate.proofs.Marks.{has_place}
use Rattle.hc_dbstate.proofs.used.mark_all.Goals as goal

pub mark-requires : goal.mark-requires
mark-requires c = let lt = c.requires _ (has_place c.args.ids.now c.ids.id-index (record { 0 = 0 }) c.ids-test.true) in omega (arith, lt, c.ids.invariant.len)
