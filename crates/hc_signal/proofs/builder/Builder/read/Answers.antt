use Rattle.hc_signal.proofs.Follows.{has_its_width}
use Rattle.hc_signal.proofs.ChangedMemories.{has_memory_width}
use Rattle.hc_signal.proofs.builder.Builder.read.Goals as goal

pub add-requires-clause-lawful : goal.add-requires-clause-lawful
add-requires-clause-lawful c =
    (_, has_its_width c.args.self.now c.args.addr c.requires.addr, has_memory_width c.args.self.now c.args.mem _ c.requires.mem c.memory_width-width.ensures.value)
