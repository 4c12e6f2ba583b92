use Rattle.hc_edges.proofs.Initial.{reset_at_rest}
use Rattle.hc_edges.proofs.resets.reset.Goals as goal

pub returns-clause-rest : goal.returns-clause-rest
returns-clause-rest c = λ rest. reset_at_rest c.args.clocked.now c.args.contents.now c.reset_each.new.contents c.args.store.now c.reset_each.new.store c.reset_each.ensures.reset c.reset_each.ensures.marks.values rest
