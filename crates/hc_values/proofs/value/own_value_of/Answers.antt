use Rattle.hc_values.proofs.Made.{binary_step, choice_step, port_step, held_step}
use Rattle.hc_values.proofs.value.own_value_of.Goals as goal

pub returns-in-Binary : goal.returns-in-Binary
returns-in-Binary g c = binary_step c.args.circuit.now c.lawful.ensures (record { values = c.args.values.now; registers = c.args.registers.now; memories = c.args.memories.now })
    c.requires.kept c.args.step c.requires.step c.in-Binary.op c.in-Binary.a c.in-Binary.b c.operand-in-Binary.result c.operand-in-Binary-2.result c.two.result c.in-Binary.is
    c.operand-in-Binary.ensures c.operand-in-Binary-2.ensures c.two.ensures

pub returns-in-Choice : goal.returns-in-Choice
returns-in-Choice g c = choice_step c.args.circuit.now c.lawful.ensures (record { values = c.args.values.now; registers = c.args.registers.now; memories = c.args.memories.now })
    c.requires.kept c.args.step c.requires.step c.in-Choice.sel c.in-Choice.a c.in-Choice.b c.operand-in-Choice.result c.mux.result c.in-Choice.is c.operand-in-Choice.ensures c.mux.ensures

pub returns-in-FromPort : goal.returns-in-FromPort
returns-in-FromPort g c = port_step c.args.circuit.now c.lawful.ensures (record { values = c.args.values.now; registers = c.args.registers.now; memories = c.args.memories.now })
    c.requires.kept c.args.step c.requires.step c.in-FromPort.field-0 c.index-values-step.result c.in-FromPort.is c.index-values-step.is

pub returns-in-Held : goal.returns-in-Held
returns-in-Held g c = held_step c.args.circuit.now c.lawful.ensures (record { values = c.args.values.now; registers = c.args.registers.now; memories = c.args.memories.now })
    c.requires.kept c.args.step c.requires.step c.index-registers-step.result c.in-Held.is c.index-registers-step.is
