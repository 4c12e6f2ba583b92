use Rattle.std.proofs.Common.{sym, subst}
use Rattle.hc_signal.specs.declared.signal.Node.TheVariants.{Cat}
use Rattle.hc_signal.specs.Lawful.{IsLawfulNode}
use Rattle.hc_signal.proofs.Follows.{cat_follows}
use Rattle.hc_signal.proofs.builder.Builder.cat.Goals as goal

pub add-requires-clause-lawful : goal.add-requires-clause-lawful
add-requires-clause-lawful c =
    subst (λ parts. IsLawfulNode c.args.self.now c.in_ok-width.width (Cat parts)) (sym c.in_ok-parts.ensures)
    (cat_follows c.args.self.now c.args.parts.now c.in_ok-width.width c.requires.part_nodes c.requires.two c.in_ok-width.ensures.value.0)
