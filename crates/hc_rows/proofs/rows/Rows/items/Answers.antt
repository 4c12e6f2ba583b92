use Rattle.std.proofs.Common.{refl, ◌∙◌}
use Rattle.hc_rows.proofs.Cuts.{flat_of_rows}
use Rattle.hc_rows.proofs.rows.Rows.items.Goals as goal

pub returns : goal.returns
returns g c = c.as_slice.ensures.value ∙ flat_of_rows _ _ _ _ c.self.invariant refl c.self.view_is
