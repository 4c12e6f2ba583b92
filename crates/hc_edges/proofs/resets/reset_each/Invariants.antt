use Rattle.hc_edges.proofs.Initial.{IsResetTo}
use Rattle.hc_edges.proofs.resets.reset_each.Given as goal

abbrev pub invariant-instances : goal.invariant-instances
invariant-instances l = IsResetTo l.clocked l.p l.fn.contents l.contents l.fn.store l.store
