use Rattle.std.proofs.Common.{arith}
use Rattle.hc_signal.specs.declared.signal.NodeId.{NodeId}
use Rattle.hc_steps.specs.Plan.{made}
use Rattle.hc_steps.specs.Views.{IsKnownAt}
use Rattle.hc_steps.proofs.Lists.{all_of}
use Rattle.hc_stepcheck.proofs.operands.are_known.Goals as goal

pub returns : goal.returns
returns c = λ t. all_of (λ (m : NodeId). IsKnownAt c.args.circuit.now c.args.parts.now c.args.at.part c.args.at.step (made m.0)) c.args.ids.now c.ids.id-index
    (omega (arith, c.ids-test.false)) c.ids.invariant
