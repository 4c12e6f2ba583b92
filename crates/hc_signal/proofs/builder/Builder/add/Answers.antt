use Rattle.std.proofs.Common.{ap, ◌∙◌}
use Rattle.hc_signal.proofs.Added.{kept_node}
use Rattle.hc_signal.proofs.builder.Builder.add.Goals as goal

pub invariant_of-self-2 : goal.invariant_of-self-2
invariant_of-self-2 c =
    kept_node _ _ c.args.width c.args.node _ _ _ _ _ _ c.self.invariant c.self.view_is c.requires.room c.requires.width c.requires.lawful c.requires.inner (cc) (cc) (cc)
