use Rattle.hc_values.proofs.WordWidths.{enable_within, addr_within, value_port_within}
use Rattle.hc_values.proofs.memories.write_all.Goals as goal

pub write-requires-clause-enable : goal.write-requires-clause-enable
write-requires-clause-enable c = enable_within c.args.circuit.now c.args.memory.now c.as_slice-ports.result.now c.ports.port-index _ c.requires.lawful c.as_slice-ports.ensures c.ports-test.true

pub write-requires-clause-addr : goal.write-requires-clause-addr
write-requires-clause-addr c = addr_within c.args.circuit.now c.args.memory.now c.as_slice-ports.result.now c.ports.port-index _ c.requires.lawful c.as_slice-ports.ensures c.ports-test.true

pub write-requires-clause-value : goal.write-requires-clause-value
write-requires-clause-value c = value_port_within c.args.circuit.now c.args.memory.now c.as_slice-ports.result.now c.ports.port-index _ c.requires.lawful c.as_slice-ports.ensures c.ports-test.true
