use Rattle.hc_stepcheck.proofs.Knowing.{constant_known, input_known}
use Rattle.hc_stepcheck.proofs.known.is_node_known.Goals as goal

pub returns-in-Const : goal.returns-in-Const
returns-in-Const c = λ t. constant_known c.args.circuit.now c.args.parts.now c.args.at.part c.args.at.step c.args.id.0 c.in-Some.row.now c.in-Const.value c.in-Some.ensures c.in-Const.is

pub returns-in-Input : goal.returns-in-Input
returns-in-Input c = λ t. input_known c.args.circuit.now c.args.parts.now c.args.at.part c.args.at.step c.args.id.0 c.in-Some.row.now c.in-Input.port c.in-Some.ensures
    c.in-Input.is (c.is_needed.ensures t)
