use Rattle.std.proofs.Common.{◌≡◌, length, ap, ◌∙◌, arith}
use Rattle.hc_rows.specs.Rows.{row_at}
use Rattle.hc_store.proofs.FlatRows.{same_many, number_within}
use Rattle.hc_store.proofs.waking.wake.Goals as goal

pub wake_from-requires-clause-many : goal.wake_from-requires-clause-many
wake_from-requires-clause-many c = ap length c.items.ensures ∙ same_many c.args.up.now c.args.stale.now c.requires.shape

pub wake_from-requires-clause-there : goal.wake_from-requires-clause-there
wake_from-requires-clause-there c =
    let r : length c.row.result.now ≡ length (row_at c.args.stale.now c.args.p) = ap length c.row.ensures in
    let n = c.number-at.ensures in
    let w = number_within c.args.stale.now c.args.p c.args.part (omega (arith, r)) in
    omega (arith, n, w)
