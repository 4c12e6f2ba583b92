use Rattle.hc_values.proofs.Edged.{registers_reset, resets_kept}
use Rattle.hc_values.proofs.registers.reset_registers.Goals as goal

pub returns-clause-value : goal.returns-clause-value
returns-clause-value c = registers_reset c.args.circuit.now c.args.clocked.now c.args.registers.now c.reset_each.new.registers c.requires c.reset_each.ensures.value

pub returns-clause-others : goal.returns-clause-others
returns-clause-others c = resets_kept c.args.circuit.now c.args.clocked.now c.args.registers.now c.reset_each.new.registers c.reset_each.ensures.value
