use Rattle.std.proofs.Common.{◌+◌, length, refl, arith}
use Rattle.hc_rows.proofs.Cuts.{start_is, row_is_in_order, row_is_within}
use Rattle.hc_rows.proofs.Lent.{lent_row, lent_rows, lent_starts}
use Rattle.hc_rows.proofs.rows.Rows.row_mut.Goals as goal

pub slice_mut-requires-clause-start_le_end : goal.slice_mut-requires-clause-start_le_end
slice_mut-requires-clause-start_le_end g c =
    row_is_in_order c.self.inside.starts.items _ c.args.r _ _ c.self.invariant
    (start_is _ _ _ _ _ _ c.as_slice-many.ensures.value c.as_slice.ensures.value c.start_of-start.ensures) (start_is _ _ _ _ _ _ c.as_slice-many.ensures.value c.as_slice-2.ensures.value c.end_of-end.ensures)

pub slice_mut-requires-clause-in_bounds : goal.slice_mut-requires-clause-in_bounds
slice_mut-requires-clause-in_bounds g c =
    let end = start_is _ _ _ _ _ _ c.as_slice-many.ensures.value c.as_slice-2.ensures.value c.end_of-end.ensures in
    let within = row_is_within c.self.inside.starts.items (length c.self.inside.items.items) (c.args.r + 1) c.end_of-end.result c.self.invariant end in
    omega (arith, within, c.self.inside.items.ok.0)

pub invariant_of-self-lent : goal.invariant_of-self-lent
invariant_of-self-lent g c = λ w. lent_starts _ w _ _ c.start_of-start.result c.self.inside.items.ok.0 c.self.invariant

pub returns : goal.returns
returns g c = (
  (refl, λ w. lent_rows _ w _ _ _ _ _ c.self.inside.items.ok.0 c.self.invariant c.self.view_is (start_is _ _ _ _ _ _ c.as_slice-many.ensures.value c.as_slice.ensures.value c.start_of-start.ensures)),
  record { writes_back = tt; value = lent_row c.self.inside.items.items c.slice_mut.result.now c.self.inside.starts.items c.args.r c.start_of-start.result c.end_of-end.result c.args.self.now c.self.view_is (start_is _ _ _ _ _ _ c.as_slice-many.ensures.value c.as_slice.ensures.value c.start_of-start.ensures) (start_is _ _ _ _ _ _ c.as_slice-many.ensures.value c.as_slice-2.ensures.value c.end_of-end.ensures) c.slice_mut.ensures.value },
)
