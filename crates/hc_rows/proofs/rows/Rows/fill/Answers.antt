use Rattle.hc_rows.proofs.Cuts.{fill_is, refill_is}
use Rattle.hc_rows.proofs.rows.Rows.fill.Goals as goal

pub returns : goal.returns
returns g c = fill_is _ _ _ _ _ (refill_is _ _ _ _ _ c.self.inside.items.ok.0 c.fill.ensures c.as_mut_slice.ensures.value) c.self.view_is
