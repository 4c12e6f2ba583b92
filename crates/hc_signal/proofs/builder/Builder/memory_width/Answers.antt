use Rattle.hc_signal.proofs.ChangedMemories.{width_of_memory}
use Rattle.hc_signal.proofs.builder.Builder.memory_width.Goals as goal

pub returns-clause-range : goal.returns-clause-range
returns-clause-range c = width_of_memory _ c.args.self.now c.args.id.0 c.index.result.now c.self.view_is c.self.invariant.lawful c.requires c.index.ensures
