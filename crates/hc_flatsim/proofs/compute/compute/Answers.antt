use Rattle.hc_flatsim.proofs.Arms.{cat_within, cat_fits, select_within, register_within, address_within, memory_within, input_arm, two_arm, mux_arm, cat_arm, register_arm, read_arm, operation_within, operation_lawful, operation_arm}
use Rattle.hc_flatsim.proofs.compute.compute.Goals as goal

pub cat-requires-clause-within : goal.cat-requires-clause-within
cat-requires-clause-within g c = cat_within c.args.circuit.now c.lawful.ensures
    (record { registers = c.args.registers.now; memories = c.args.memories.now; inputs = c.args.inputs.now }) c.requires.given c.args.values.now c.args.id.0 c.args.row.now
    c.requires.row c.in-Cat.parts c.as_slice-in-Cat.result.now c.in-Cat.is c.as_slice-in-Cat.ensures

pub cat-requires-clause-fits : goal.cat-requires-clause-fits
cat-requires-clause-fits g c = cat_fits c.args.circuit.now c.lawful.ensures
    (record { registers = c.args.registers.now; memories = c.args.memories.now; inputs = c.args.inputs.now }) c.requires.given c.args.values.now c.args.id.0 c.args.row.now
    c.requires.row c.in-Cat.parts c.as_slice-in-Cat.result.now c.in-Cat.is c.as_slice-in-Cat.ensures

pub operand-requires-in-Select-clause-within : goal.operand-requires-in-Select-clause-within
operand-requires-in-Select-clause-within g c = select_within c.args.circuit.now c.lawful.ensures
    (record { registers = c.args.registers.now; memories = c.args.memories.now; inputs = c.args.inputs.now }) c.requires.given c.args.values.now c.args.id.0 c.args.row.now
    c.requires.row c.in-Select.a c.in-Select.hi c.in-Select.lo c.in-Select.is

pub bounds-registers-id : goal.bounds-registers-id
bounds-registers-id g c = register_within c.args.circuit.now c.lawful.ensures
    (record { registers = c.args.registers.now; memories = c.args.memories.now; inputs = c.args.inputs.now }) c.requires.given c.args.values.now c.args.id.0 c.args.row.now c.requires.row

pub operand-requires-in-Read-clause-within : goal.operand-requires-in-Read-clause-within
operand-requires-in-Read-clause-within g c = address_within c.args.circuit.now c.lawful.ensures
    (record { registers = c.args.registers.now; memories = c.args.memories.now; inputs = c.args.inputs.now }) c.requires.given c.args.values.now c.args.id.0 c.args.row.now
    c.requires.row c.in-Read.mem c.in-Read.addr c.in-Read.is

pub read-requires-clause-within : goal.read-requires-clause-within
read-requires-clause-within g c = memory_within c.args.circuit.now c.lawful.ensures
    (record { registers = c.args.registers.now; memories = c.args.memories.now; inputs = c.args.inputs.now }) c.requires.given c.args.values.now c.args.id.0 c.args.row.now
    c.requires.row c.in-Read.mem c.in-Read.addr c.in-Read.is

pub returns-in-Input : goal.returns-in-Input
returns-in-Input g c = input_arm c.args.circuit.now c.lawful.ensures (record { registers = c.args.registers.now; memories = c.args.memories.now; inputs = c.args.inputs.now })
    c.requires.given c.args.values.now c.args.id.0 c.args.row.now c.requires.row c.in-Input.port c.index-inputs-port.result c.in-Input.is c.index-inputs-port.is

pub returns-in-Two : goal.returns-in-Two
returns-in-Two g c = two_arm c.args.circuit.now c.lawful.ensures (record { registers = c.args.registers.now; memories = c.args.memories.now; inputs = c.args.inputs.now })
    c.requires.given c.args.values.now c.args.id.0 c.args.row.now c.requires.row c.in-Two.op c.in-Two.a c.in-Two.b c.operand-in-Two.result c.operand-in-Two-2.result c.two.result
    c.in-Two.is c.operand-in-Two.ensures c.operand-in-Two-2.ensures c.two.ensures

pub returns-in-Mux : goal.returns-in-Mux
returns-in-Mux g c = mux_arm c.args.circuit.now c.lawful.ensures (record { registers = c.args.registers.now; memories = c.args.memories.now; inputs = c.args.inputs.now })
    c.requires.given c.args.values.now c.args.id.0 c.args.row.now c.requires.row c.in-Mux.sel c.in-Mux.cases c.as_slice.result.now c.operand-in-Mux.result c.mux.result c.in-Mux.is
    c.as_slice.ensures c.operand-in-Mux.ensures c.mux.ensures

pub returns-in-Cat : goal.returns-in-Cat
returns-in-Cat g c = cat_arm c.args.circuit.now c.lawful.ensures (record { registers = c.args.registers.now; memories = c.args.memories.now; inputs = c.args.inputs.now })
    c.requires.given c.args.values.now c.args.id.0 c.args.row.now c.requires.row c.in-Cat.parts c.as_slice-in-Cat.result.now c.cat.result c.in-Cat.is c.as_slice-in-Cat.ensures c.cat.ensures

pub returns-in-Reg : goal.returns-in-Reg
returns-in-Reg g c = register_arm c.args.circuit.now c.lawful.ensures (record { registers = c.args.registers.now; memories = c.args.memories.now; inputs = c.args.inputs.now })
    c.requires.given c.args.values.now c.args.id.0 c.args.row.now c.requires.row c.in-Reg.next c.in-Reg.enable c.in-Reg.clear c.in-Reg.init c.index-registers-id.result c.in-Reg.is
    c.index-registers-id.is

pub returns-in-Read : goal.returns-in-Read
returns-in-Read g c = read_arm c.args.circuit.now c.lawful.ensures (record { registers = c.args.registers.now; memories = c.args.memories.now; inputs = c.args.inputs.now })
    c.requires.given c.args.values.now c.args.id.0 c.args.row.now c.requires.row c.in-Read.mem c.in-Read.addr c.operand-in-Read.result c.read.result c.in-Read.is
    c.operand-in-Read.ensures c.read.ensures

pub operation-requires-clause-within : goal.operation-requires-clause-within
operation-requires-clause-within g c = operation_within c.args.circuit.now c.lawful.ensures
    (record { registers = c.args.registers.now; memories = c.args.memories.now; inputs = c.args.inputs.now }) c.requires.given c.args.values.now c.args.id.0 c.args.row.now
    c.requires.row c.in-Op.kind c.in-Op.args c.as_slice-in-Op.result.now c.in-Op.is c.as_slice-in-Op.ensures

pub operation-requires-clause-lawful : goal.operation-requires-clause-lawful
operation-requires-clause-lawful g c = operation_lawful c.args.circuit.now c.lawful.ensures
    (record { registers = c.args.registers.now; memories = c.args.memories.now; inputs = c.args.inputs.now }) c.requires.given c.args.values.now c.args.id.0 c.args.row.now
    c.requires.row c.in-Op.kind c.in-Op.args c.as_slice-in-Op.result.now c.in-Op.is c.as_slice-in-Op.ensures

pub returns-in-Op : goal.returns-in-Op
returns-in-Op g c = operation_arm c.args.circuit.now c.lawful.ensures (record { registers = c.args.registers.now; memories = c.args.memories.now; inputs = c.args.inputs.now })
    c.requires.given c.args.values.now c.args.id.0 c.args.row.now c.requires.row c.in-Op.kind c.in-Op.args c.as_slice-in-Op.result.now c.operation.result c.in-Op.is
    c.as_slice-in-Op.ensures c.operation.ensures
