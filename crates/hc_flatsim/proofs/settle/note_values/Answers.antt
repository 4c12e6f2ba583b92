use Rattle.hc_flatsim.proofs.Shapes.{output_within}
use Rattle.hc_flatsim.proofs.settle.note_values.Goals as goal

pub operand-requires-clause-within : goal.operand-requires-clause-within
operand-requires-clause-within c = output_within c.args.circuit.now c.lawful.ensures c.outputs-outputs.result.now c.outputs.k (record { 0 = 0 }) c.outputs-outputs.ensures c.outputs-test.true
