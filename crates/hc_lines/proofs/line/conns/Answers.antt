use Rattle.std.proofs.Common.{◌∙◌, sym, arith}
use Rattle.hc_lines.proofs.LineSteps.{items-goes}
use Rattle.hc_lines.proofs.line.conns.Goals as goal

pub more-preserved : goal.more-preserved
more-preserved c = (
  omega (arith, c.more.invariant.0),
  rw c.in_ok-push.ensures.ok
      (c.more.invariant.1 ∙ items-goes _ _ c.more.left _ _ _ _ c.if-left-eq0.false (sym c.in-None.ensures) c.in_ok-item.ensures),
)
