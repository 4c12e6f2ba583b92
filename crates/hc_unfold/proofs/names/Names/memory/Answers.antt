use Rattle.std.proofs.Common.{sym, ap, ◌∙◌}
use Rattle.std.specs.Prelude.{Some}
use Rattle.hc_unfold.specs.Names.{Target}
use Rattle.hc_unfold.proofs.Known.{known_memory}
use Rattle.hc_unfold.proofs.names.Names.memory.Goals as goal

pub returns-in-Some-Memory-clause-known : goal.returns-in-Some-Memory-clause-known
returns-in-Some-Memory-clause-known c g known =
    known_memory c.args.self.now c.args.key.now c.in-Some-Memory.id g (sym c.get.ensures ∙ c.in-Some-Memory.is ∙ ap (λ (t : Target). Some t) c.in-Some-Memory.field-0-is) known
