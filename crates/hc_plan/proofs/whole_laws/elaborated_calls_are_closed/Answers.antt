use Rattle.hc_signal.specs.Occurrences.{HasCombLoop}
use Rattle.hc_plan.proofs.ClosedCalls.{closed_calls}
use Rattle.hc_plan.proofs.whole_laws.elaborated_calls_are_closed.Goals as goal

pub returns : goal.returns
returns c d e x = closed_calls HasCombLoop d (c.bodies_have_their_children.ensures d) x.1
