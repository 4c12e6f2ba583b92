use Rattle.hc_store.proofs.Runs.{settles_end}
use Rattle.hc_store.proofs.settling.run_top.Goals as goal

pub returns-clause-settled : goal.returns-clause-settled
returns-clause-settled g c = settles_end c.args.site.now c.requires.fit c.requires.top c.count_parts-many.result c.parts.part c.count_parts-many.ensures c.parts-test.false
    c.args.store.now c.parts.store c.parts.invariant.settled
