use Rattle.hc_signal.proofs.AddedInstances.{output_node}
use Rattle.hc_signal.proofs.builder.Builder.out.Goals as goal

pub returns : goal.returns
returns c = output_node _ c.args.self.now _ _ _ c.args.inst c.args.port _ c.self.invariant c.self.view_is c.requires.0 c.requires.1 c.requires.2 c.index.ensures
