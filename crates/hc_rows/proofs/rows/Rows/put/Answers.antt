use Rattle.std.proofs.Common.{arith}
use Rattle.hc_rows.proofs.Cuts.{start_is, item_is_within, put_is}
use Rattle.hc_rows.proofs.rows.Rows.put.Goals as goal

pub overflow_add-n : goal.overflow_add-n
overflow_add-n g c =
    let start = start_is _ _ _ _ _ _ c.as_slice-2.ensures.value c.as_slice.ensures.value c.start_of.ensures in
    let within = item_is_within _ _ _ _ _ _ c.self.view_is c.requires start in
    omega (arith, within, c.as_slice-2.type_inv)

pub index_mut-requires : goal.index_mut-requires
index_mut-requires g c =
    let start = start_is _ _ _ _ _ _ c.as_slice-2.ensures.value c.as_slice.ensures.value c.start_of.ensures in
    let within = item_is_within _ _ _ _ _ _ c.self.view_is c.requires start in
    omega (arith, within, c.self.inside.items.ok.0)

pub returns : goal.returns
returns g c = put_is _ _ _ _ _ _ _ c.self.invariant c.self.view_is c.requires (start_is _ _ _ _ _ _ c.as_slice-2.ensures.value c.as_slice.ensures.value c.start_of.ensures)
