use Rattle.std.proofs.Common.{arith}
use Rattle.hc_workers.proofs.Heights.{highest_all, highest_more}
use Rattle.hc_workers.proofs.levels.highest_of.Goals as goal
use Rattle.hc_workers.proofs.levels.highest_of.Goals.{then-highest-row, else-highest-row}

pub rows-preserved : goal.rows-preserved
rows-preserved c =
    elim c.if-highest-row.branch [
      | then-highest-row w ↦ highest_more c.args.rows.now c.rows.row-index c.row-item.result c.rows.highest c.if-highest-row.highest c.rows-test.true c.row-item.is c.rows.invariant
          (omega arith) (omega arith)
      | else-highest-row w ↦ highest_more c.args.rows.now c.rows.row-index c.row-item.result c.rows.highest c.if-highest-row.highest c.rows-test.true c.row-item.is c.rows.invariant
          (omega arith) (omega arith)
    ]

pub returns : goal.returns
returns c = highest_all c.args.rows.now c.rows.row-index c.rows.highest c.rows-test.false c.rows.invariant
