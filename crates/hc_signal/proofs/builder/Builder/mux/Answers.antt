use Rattle.std.proofs.Common.{sym, subst}
use Rattle.hc_signal.specs.declared.signal.Node.TheVariants.{Mux}
use Rattle.hc_signal.specs.Lawful.{IsLawfulNode}
use Rattle.hc_signal.proofs.Follows.{mux_follows}
use Rattle.hc_signal.proofs.builder.Builder.mux.Goals as goal

pub add-requires-clause-lawful : goal.add-requires-clause-lawful
add-requires-clause-lawful c =
    subst (λ cases. IsLawfulNode c.args.self.now c.in_ok-width.width (Mux c.args.sel cases)) (sym c.in_ok-cases.ensures)
    (mux_follows c.args.self.now c.args.sel c.args.cases.now c.in_ok-width.width c.requires.sel_node c.requires.case_nodes c.requires.two c.in_ok-width.ensures.value.0 c.in_ok-width.ensures.rule)
