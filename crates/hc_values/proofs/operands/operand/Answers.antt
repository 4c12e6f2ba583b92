use Rattle.hc_values.proofs.Shapes.{operand_read}
use Rattle.hc_values.proofs.operands.operand.Goals as goal

pub returns : goal.returns
returns c = operand_read c.args.circuit.now c.args.values.now c.args.id c.index-values-id.result c.requires.values c.requires.within c.index-values-id.is
