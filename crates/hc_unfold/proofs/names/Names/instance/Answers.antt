use Rattle.std.proofs.Common.{sym, ap, ◌∙◌}
use Rattle.std.specs.Prelude.{Some}
use Rattle.hc_unfold.specs.Names.{Target}
use Rattle.hc_unfold.proofs.Known.{known_instance}
use Rattle.hc_unfold.proofs.names.Names.instance.Goals as goal

pub returns-in-Some-Instance-clause-known : goal.returns-in-Some-Instance-clause-known
returns-in-Some-Instance-clause-known c g known =
    known_instance c.args.self.now c.args.key.now c.in-Some-Instance.id g (sym c.get.ensures ∙ c.in-Some-Instance.is ∙ ap (λ (t : Target). Some t) c.in-Some-Instance.field-0-is) known
