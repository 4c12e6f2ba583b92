use Rattle.std.proofs.Common.{take}
use Rattle.hc_plan.specs.Stepping.{outs_of}
use Rattle.hc_elab.specs.Rows.{AreFinished}
use Rattle.hc_elab.proofs.elab.finish_rows.Given as goal

abbrev pub invariant-rows : goal.invariant-rows
invariant-rows l = AreFinished l.fn.db l.db (take l.row-index l.plan.rows) (outs_of l.outs.items)
