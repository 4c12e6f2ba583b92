use Rattle.hc_values.proofs.Edged.{registers_kept, registers_stepped}
use Rattle.hc_values.proofs.registers.step_registers.Goals as goal

pub returns-clause-value : goal.returns-clause-value
returns-clause-value c = registers_stepped c.args.circuit.now c.args.values.now c.args.clocked.now c.args.registers.now c.step_each.new.registers c.requires.registers
    c.step_each.ensures.widths c.step_each.ensures.value

pub returns-clause-others : goal.returns-clause-others
returns-clause-others c = registers_kept c.args.circuit.now c.args.values.now c.args.clocked.now c.args.registers.now c.step_each.new.registers c.step_each.ensures.value
