use Rattle.hc_edges.proofs.Edged.{IsEdgedTo}
use Rattle.hc_edges.proofs.edges.edge_each.Given as goal

abbrev pub invariant-instances : goal.invariant-instances
invariant-instances l = IsEdgedTo l.clocked l.p l.fn.contents l.contents l.fn.store l.store
