use Rattle.std.proofs.Common.{subst, sym}
use Rattle.hc_plan.specs.Stepping.{outs_of}
use Rattle.hc_elab.specs.Rows.{AreThere}
use Rattle.hc_elab.proofs.Finished.{are_there, one_more, row_at, row_checked, row_many}
use Rattle.hc_elab.proofs.elab.finish_rows.Goals as goal

pub finish-requires-clause-checked : goal.finish-requires-clause-checked
finish-requires-clause-checked c = row_checked _ _ _ c.requires _ _ (row_at _ _ _ _ c.as_slice-rows.ensures c.rows-test.true c.row-item.is)

pub finish-requires-clause-many : goal.finish-requires-clause-many
finish-requires-clause-many c = row_many _ _ _ c.requires (c.bodies_have_their_children.ensures c.args.design.now) _ _ (row_at _ _ _ _ c.as_slice-rows.ensures c.rows-test.true c.row-item.is)

pub finish-requires-clause-there : goal.finish-requires-clause-there
finish-requires-clause-there c = subst (λ xs. AreThere c.rows.db (outs_of xs)) (sym c.as_slice.ensures.value) (are_there _ _ _ _ c.rows.invariant)

pub rows-preserved : goal.rows-preserved
rows-preserved c =
    one_more _ _ _ c.requires _ _ (row_at _ _ _ _ c.as_slice-rows.ensures c.rows-test.true c.row-item.is) _ c.rows.db _ _ _ _ c.in_ok-out.out c.rows.invariant
    c.as_slice.ensures.value c.in_ok-out.ensures.ok c.in_ok-push.ensures.items
