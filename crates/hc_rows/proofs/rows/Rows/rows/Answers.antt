use Rattle.std.proofs.Common.{◌∙◌}
use Rattle.hc_rows.proofs.Cuts.{length_of_rows}
use Rattle.hc_rows.proofs.rows.Rows.rows.Goals as goal

pub returns : goal.returns
returns g c = c.len.ensures ∙ c.self.inside.starts.ok.0 ∙ length_of_rows _ _ _ _ c.self.view_is
