use Rattle.std.proofs.Common.{arith}
use Rattle.hc_rows.proofs.Cuts.{start_is, item_is_within, number_is}
use Rattle.hc_rows.proofs.rows.Rows.number.Goals as goal

pub overflow_add-result : goal.overflow_add-result
overflow_add-result g c =
    let start = start_is _ _ _ _ _ _ c.as_slice-2.ensures.value c.as_slice.ensures.value c.start_of.ensures in
    let within = item_is_within _ _ _ _ _ _ c.self.view_is c.requires start in
    omega (arith, within, c.as_slice-2.type_inv)

pub returns : goal.returns
returns g c = number_is _ _ _ _ _ _ c.self.invariant c.self.view_is (start_is _ _ _ _ _ _ c.as_slice-2.ensures.value c.as_slice.ensures.value c.start_of.ensures)
