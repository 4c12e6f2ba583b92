use Rattle.hc_edges.proofs.Edged.{all_step, still_at_rest}
use Rattle.hc_edges.proofs.edges.edge.Goals as goal

pub returns-clause-steps : goal.returns-clause-steps
returns-clause-steps c = λ rest. all_step c.args.clocked.now c.args.contents.now c.edge_each.new.contents c.args.store.now c.edge_each.new.store c.requires.store c.edge_each.ensures.edge rest

pub returns-clause-rest : goal.returns-clause-rest
returns-clause-rest c = λ rest. still_at_rest c.args.clocked.now c.args.contents.now c.edge_each.new.contents c.args.store.now c.edge_each.new.store c.requires.store c.edge_each.ensures.edge rest c.edge_each.ensures.marks.values
