use Rattle.std.proofs.Common.{sym, ap, ◌∙◌}
use Rattle.std.specs.Prelude.{Some}
use Rattle.hc_unfold.specs.Names.{Target}
use Rattle.hc_unfold.proofs.Known.{known_node}
use Rattle.hc_unfold.proofs.names.Names.node.Goals as goal

pub returns-in-Some-Node-clause-known : goal.returns-in-Some-Node-clause-known
returns-in-Some-Node-clause-known c g known =
    known_node c.args.self.now c.args.key.now c.in-Some-Node.id g (sym c.get.ensures ∙ c.in-Some-Node.is ∙ ap (λ (t : Target). Some t) c.in-Some-Node.field-0-is) known
