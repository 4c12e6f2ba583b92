use Rattle.std.proofs.Common.{arith}
use Rattle.hc_values.proofs.Shapes.{case_within}
use Rattle.hc_values.proofs.operands.operation.Goals as goal

pub operand-requires-clause-within : goal.operand-requires-clause-within
operand-requires-clause-within g c =
    let some = c.in-len1.len_at_least in
    case_within c.args.circuit.now c.args.args.now 0 (record { 0 = 0 }) c.requires.within (omega (arith, some))

pub operand-requires-in-len2-clause-within : goal.operand-requires-in-len2-clause-within
operand-requires-in-len2-clause-within g c =
    let some = c.in-len2.len_at_least in
    case_within c.args.circuit.now c.args.args.now 0 (record { 0 = 0 }) c.requires.within (omega (arith, some))

pub operand-requires-in-len2-2-clause-within : goal.operand-requires-in-len2-2-clause-within
operand-requires-in-len2-2-clause-within g c =
    let some = c.in-len2.len_at_least in
    case_within c.args.circuit.now c.args.args.now 1 (record { 0 = 0 }) c.requires.within (omega (arith, some))
