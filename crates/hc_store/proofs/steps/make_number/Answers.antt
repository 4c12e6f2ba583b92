use Rattle.hc_store.proofs.Arms.{make_there, make_within, make_takes, make_advances}
use Rattle.hc_store.proofs.steps.make_number.Goals as goal

pub put-requires-clause-node : goal.put-requires-clause-node
put-requires-clause-node g c = make_there c.args.site.now c.requires.fit c.args.p c.args.part c.args.node.0 c.requires.step c.args.store.now c.args.store.now c.requires.store

pub put-requires-clause-instance : goal.put-requires-clause-instance
put-requires-clause-instance g c = make_within c.args.site.now c.requires.fit c.args.p c.args.part c.args.node.0 c.requires.step c.args.store.now c.args.store.now c.requires.store

pub returns-clause-advances : goal.returns-clause-advances
returns-clause-advances g c = make_advances c.args.site.now c.requires.fit c.args.p c.args.part c.args.node.0 c.requires.step c.args.store.now c.put.new.store c.requires.store
    c.row.result.now c.row.ensures c.number_of-x.result c.number_of-x.ensures.width c.number_of-x.ensures.value c.plan_at.result.now c.plan_at.ensures c.readers-readers.result.now
    c.readers-readers.ensures c.put.ensures

pub returns-clause-taken : goal.returns-clause-taken
returns-clause-taken g c = make_takes c.args.site.now c.requires.fit c.args.p c.args.part c.args.node.0 c.requires.step c.args.store.now c.put.new.store c.requires.store
    c.row.result.now c.row.ensures c.number_of-x.result c.number_of-x.ensures.width c.number_of-x.ensures.value c.plan_at.result.now c.plan_at.ensures c.readers-readers.result.now
    c.readers-readers.ensures c.put.ensures
