use Rattle.hc_rows.proofs.Cuts.{row_in_rows}
use Rattle.hc_rows.proofs.rows.Rows.row.Goals as goal

pub returns : goal.returns
returns g c = row_in_rows _ _ _ _ _ _ _ c.self.view_is c.as_slice.ensures.value c.as_slice-2.ensures.value c.cut.ensures
