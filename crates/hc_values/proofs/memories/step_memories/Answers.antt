use Rattle.hc_values.proofs.Edged.{memories_kept, memories_stepped}
use Rattle.hc_values.proofs.memories.step_memories.Goals as goal

pub returns-clause-value : goal.returns-clause-value
returns-clause-value c = memories_stepped c.args.circuit.now c.args.values.now c.args.used.now c.args.memories.now c.step_each.new.memories c.requires.memories
    c.step_each.ensures.widths c.step_each.ensures.value

pub returns-clause-others : goal.returns-clause-others
returns-clause-others c = memories_kept c.args.circuit.now c.args.values.now c.args.used.now c.args.memories.now c.step_each.new.memories c.step_each.ensures.value
