use Rattle.std.proofs.Common.{sym, ◌∙◌, arith, rules}
use Rattle.std.proofs.lemmas.List.{append-nil}
use Rattle.hc_rows.proofs.Cuts.{copies_more}
use Rattle.hc_rows.proofs.rows.extend.Goals as goal

pub copies-init : goal.copies-init
copies-init g c = (c.in_ok-reserve.ensures.items ∙ sym (append-nil _), search rules)

pub copies-preserved : goal.copies-preserved
copies-preserved g c = (copies_more _ _ _ _ _ c.copies.invariant.0 c.push_reserved.ensures.items, omega (arith, c.copies.invariant.1))
