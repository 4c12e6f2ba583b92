use Rattle.hc_plan.proofs.ReachedCalls.{reached_called}
use Rattle.hc_plan.proofs.reached_laws.reached_trees_are_called.Goals as goal

pub returns : goal.returns
returns c d e x = reached_called e (c.elaborated_calls_are_closed.ensures d e x) (c.elaborated_trees.ensures.last d e x) (c.elaborated_trees_are_whole.ensures d e x)
