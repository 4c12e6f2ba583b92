use Rattle.std.proofs.Common.{arith}
use Rattle.hc_weights.proofs.Marked.{all_added}
use Rattle.hc_weights.proofs.entries.marked_weight.Goals as goal

pub returns : goal.returns
returns c = let n = c.len-place-end.ensures in all_added c.args.marks.now c.args.db.now.entries c.entries.place c.entries.sum (omega (arith, n)) c.entries.invariant
