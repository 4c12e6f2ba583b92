use Rattle.std.proofs.Common.{sym, subst, ◌∙◌, arith}
use Rattle.hc_signal.specs.declared.signal.Node.TheVariants.{Op}
use Rattle.hc_signal.specs.Lawful.{IsLawfulNode}
use Rattle.hc_signal.proofs.Places.{has_get_or}
use Rattle.hc_signal.proofs.Follows.{op_follows, result_has_width, takes_some}
use Rattle.hc_signal.proofs.builder.Builder.op.Goals as goal

pub width-width-requires : goal.width-width-requires
width-width-requires c = c.requires.arg_nodes _ (has_get_or c.args.args.now 0 _ (omega (arith, takes_some c.args.kind)))

pub add-requires-clause-width : goal.add-requires-clause-width
add-requires-clause-width c = rw c.result_width.ensures (result_has_width c.args.kind c.width-width.result c.width-width.ensures.range)

pub add-requires-clause-lawful : goal.add-requires-clause-lawful
add-requires-clause-lawful c =
    rw (c.result_width.ensures, c.in_ok-args.ensures)
    (op_follows c.args.self.now c.args.kind c.args.args.now c.width-width.result c.requires.arg_nodes c.requires.arity (sym c.have_width.ensures ∙ c.if-not-have_width.false))
