use Rattle.hc_values.proofs.Standing.{own_is_value, own_width}
use Rattle.hc_values.proofs.value.value_of.Goals as goal

pub returns-clause-width : goal.returns-clause-width
returns-clause-width g c = own_width c.args.circuit.now (record { values = c.args.values.now; registers = c.args.registers.now; memories = c.args.memories.now }) c.args.step.id.0
    c.own_value_of.result c.own_value_of.ensures

pub returns-clause-value : goal.returns-clause-value
returns-clause-value g c = own_is_value c.args.circuit.now (record { values = c.args.values.now; registers = c.args.registers.now; memories = c.args.memories.now })
    c.args.step.id.0 c.own_value_of.result c.own_value_of.ensures
