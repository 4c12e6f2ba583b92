use Rattle.hc_statements.proofs.HeadSteps.{widths_step, widths_more, one_longer}
use Rattle.hc_statements.proofs.heads.widths.Goals as goal

pub heads-preserved : goal.heads-preserved
heads-preserved c = record {
  so_far = widths_step c.args.env.now c.heads.taken c.line_width.new.taken c.args.heads.now c.heads.head-index c.head-item.result c.heads.widths.items c.push.new.widths.items
      c.in_ok-width.width _ c.heads-test.true c.head-item.is c.in_ok-width.ensures.width c.in_ok-width.ensures.taken c.in_ok-push.ensures.ok c.heads.invariant.so_far;
  range = widths_more c.heads.widths.items c.push.new.widths.items c.in_ok-width.width c.heads.invariant.range c.in_ok-width.ensures.range c.in_ok-push.ensures.ok;
  count = one_longer c.heads.widths.items c.push.new.widths.items c.in_ok-width.width c.heads.head-index c.in_ok-push.ensures.ok c.heads.invariant.count;
}
