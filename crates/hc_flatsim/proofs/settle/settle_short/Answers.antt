use Rattle.hc_flatsim.proofs.Planned.{same_step, binary_step, complement_step, part_step, choice_step, port_step, held_step}
use Rattle.hc_flatsim.proofs.settle.settle_short.Goals as goal

pub returns-in-Same-clause-widths : goal.returns-in-Same-clause-widths
returns-in-Same-clause-widths c = (same_step c.args.circuit.now c.lawful.ensures
    (record { registers = c.args.registers.now; memories = c.args.memories.now; inputs = c.args.inputs.now }) c.requires.given c.args.values.now c.requires.values c.args.step
    c.requires.step c.in-Same.a c.operand-value.result c.in-Same.is c.operand-value.ensures).1

pub returns-in-Binary-clause-value : goal.returns-in-Binary-clause-value
returns-in-Binary-clause-value c = λ _. (binary_step c.args.circuit.now c.lawful.ensures
    (record { registers = c.args.registers.now; memories = c.args.memories.now; inputs = c.args.inputs.now }) c.requires.given c.args.values.now c.requires.values c.args.step
    c.requires.step c.in-Binary.op c.in-Binary.a c.in-Binary.b c.operand.result c.operand-in-Binary.result c.two-value.result c.in-Binary.is c.operand.ensures
    c.operand-in-Binary.ensures c.two-value.ensures).0

pub returns-in-Binary-clause-widths : goal.returns-in-Binary-clause-widths
returns-in-Binary-clause-widths c = (binary_step c.args.circuit.now c.lawful.ensures
    (record { registers = c.args.registers.now; memories = c.args.memories.now; inputs = c.args.inputs.now }) c.requires.given c.args.values.now c.requires.values c.args.step
    c.requires.step c.in-Binary.op c.in-Binary.a c.in-Binary.b c.operand.result c.operand-in-Binary.result c.two-value.result c.in-Binary.is c.operand.ensures
    c.operand-in-Binary.ensures c.two-value.ensures).1

pub returns-in-Complement-clause-widths : goal.returns-in-Complement-clause-widths
returns-in-Complement-clause-widths c = (complement_step c.args.circuit.now c.lawful.ensures
    (record { registers = c.args.registers.now; memories = c.args.memories.now; inputs = c.args.inputs.now }) c.requires.given c.args.values.now c.requires.values c.args.step
    c.requires.step c.in-Complement.a c.operand-in-Complement.result c.not-value.result c.in-Complement.is c.operand-in-Complement.ensures c.not-value.ensures).1

pub returns-in-Held-clause-value : goal.returns-in-Held-clause-value
returns-in-Held-clause-value c = λ _. (held_step c.args.circuit.now c.lawful.ensures
    (record { registers = c.args.registers.now; memories = c.args.memories.now; inputs = c.args.inputs.now }) c.requires.given c.args.values.now c.requires.values c.args.step
    c.requires.step c.index-registers-place.result c.in-Held.is c.index-registers-place.is).0

pub returns-in-Held-clause-widths : goal.returns-in-Held-clause-widths
returns-in-Held-clause-widths c = (held_step c.args.circuit.now c.lawful.ensures
    (record { registers = c.args.registers.now; memories = c.args.memories.now; inputs = c.args.inputs.now }) c.requires.given c.args.values.now c.requires.values c.args.step
    c.requires.step c.index-registers-place.result c.in-Held.is c.index-registers-place.is).1

pub returns-in-Part-clause-widths : goal.returns-in-Part-clause-widths
returns-in-Part-clause-widths c = (part_step c.args.circuit.now c.lawful.ensures
    (record { registers = c.args.registers.now; memories = c.args.memories.now; inputs = c.args.inputs.now }) c.requires.given c.args.values.now c.requires.values c.args.step
    c.requires.step c.in-Part.a c.in-Part.hi c.in-Part.lo c.operand-in-Part.result c.select-value.result c.in-Part.is c.operand-in-Part.ensures c.select-value.ensures).1

pub returns-in-Choice-clause-value : goal.returns-in-Choice-clause-value
returns-in-Choice-clause-value c = λ _. (choice_step c.args.circuit.now c.lawful.ensures
    (record { registers = c.args.registers.now; memories = c.args.memories.now; inputs = c.args.inputs.now }) c.requires.given c.args.values.now c.requires.values c.args.step
    c.requires.step c.in-Choice.sel c.in-Choice.a c.in-Choice.b c.operand-in-Choice.result c.mux-value.result c.in-Choice.is c.operand-in-Choice.ensures c.mux-value.ensures).0

pub returns-in-FromPort-clause-value : goal.returns-in-FromPort-clause-value
returns-in-FromPort-clause-value c = λ _. (port_step c.args.circuit.now c.lawful.ensures
    (record { registers = c.args.registers.now; memories = c.args.memories.now; inputs = c.args.inputs.now }) c.requires.given c.args.values.now c.requires.values c.args.step
    c.requires.step c.in-FromPort.port c.index-inputs-port.result c.in-FromPort.is c.index-inputs-port.is).0

pub returns-in-Choice-clause-widths : goal.returns-in-Choice-clause-widths
returns-in-Choice-clause-widths c = (choice_step c.args.circuit.now c.lawful.ensures
    (record { registers = c.args.registers.now; memories = c.args.memories.now; inputs = c.args.inputs.now }) c.requires.given c.args.values.now c.requires.values c.args.step
    c.requires.step c.in-Choice.sel c.in-Choice.a c.in-Choice.b c.operand-in-Choice.result c.mux-value.result c.in-Choice.is c.operand-in-Choice.ensures c.mux-value.ensures).1

pub returns-in-FromPort-clause-widths : goal.returns-in-FromPort-clause-widths
returns-in-FromPort-clause-widths c = (port_step c.args.circuit.now c.lawful.ensures
    (record { registers = c.args.registers.now; memories = c.args.memories.now; inputs = c.args.inputs.now }) c.requires.given c.args.values.now c.requires.values c.args.step
    c.requires.step c.in-FromPort.port c.index-inputs-port.result c.in-FromPort.is c.index-inputs-port.is).1
