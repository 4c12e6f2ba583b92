use Rattle.hc_signal.proofs.Follows.{two_follows}
use Rattle.hc_signal.proofs.builder.Builder.two.Goals as goal

pub add-requires-clause-width : goal.add-requires-clause-width
add-requires-clause-width c = (two_follows c.args.self.now c.args.op c.args.a c.args.b _ _ _ c.requires.a_node c.requires.b_node c.width.ensures.value c.width.ensures.range c.width-2.ensures.value c.width-2.ensures.range c.in_ok-width.ensures.value c.in_ok-width.ensures.rule).0

pub add-requires-clause-lawful : goal.add-requires-clause-lawful
add-requires-clause-lawful c = (two_follows c.args.self.now c.args.op c.args.a c.args.b _ _ _ c.requires.a_node c.requires.b_node c.width.ensures.value c.width.ensures.range c.width-2.ensures.value c.width-2.ensures.range c.in_ok-width.ensures.value c.in_ok-width.ensures.rule).1
