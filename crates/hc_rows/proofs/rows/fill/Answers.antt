use Rattle.hc_rows.proofs.Cuts.{fill_more}
use Rattle.hc_rows.proofs.rows.fill.Goals as goal

pub items-preserved : goal.items-preserved
items-preserved g c = fill_more _ _ _ _ c.items-test.true c.items.invariant
