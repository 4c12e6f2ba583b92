use Rattle.hc_rows.proofs.Cuts.{row_is_in_order, row_is_within}
use Rattle.hc_rows.proofs.rows.cut.Goals as goal

pub range-requires-clause-order : goal.range-requires-clause-order
range-requires-clause-order g c = row_is_in_order _ _ _ _ _ c.requires c.start_of.ensures c.start_of-then-r-starts.ensures

pub range-requires-clause-within : goal.range-requires-clause-within
range-requires-clause-within g c = row_is_within _ _ _ _ c.requires c.start_of-then-r-starts.ensures
