use Rattle.hc_store.proofs.Arms.{pass_place, pass_kid, pass_there, pass_takes, pass_advances}
use Rattle.hc_store.proofs.steps.pass_connection.Goals as goal

pub at-x-requires : goal.at-x-requires
at-x-requires c = pass_place c.args.site.now c.requires.fit c.args.p c.args.part c.args.node.0 c.args.inst.0 c.args.port c.requires.step c.args.store.now c.args.store.now c.requires.store

pub plan_at-requires-clause-instance : goal.plan_at-requires-clause-instance
plan_at-requires-clause-instance c = pass_kid c.args.site.now c.requires.fit c.args.p c.args.part c.args.node.0 c.args.inst.0 c.args.port c.requires.step c.args.store.now
    c.args.store.now c.requires.store c.kid-q.result c.kid-q.ensures

pub put-requires-clause-node : goal.put-requires-clause-node
put-requires-clause-node c = pass_there c.args.site.now c.requires.fit c.args.p c.args.part c.args.node.0 c.args.inst.0 c.args.port c.requires.step c.args.store.now
    c.args.store.now c.requires.store c.kid-q.result c.kid-q.ensures

pub put-requires-clause-instance : goal.put-requires-clause-instance
put-requires-clause-instance c = pass_kid c.args.site.now c.requires.fit c.args.p c.args.part c.args.node.0 c.args.inst.0 c.args.port c.requires.step c.args.store.now
    c.args.store.now c.requires.store c.kid-q.result c.kid-q.ensures

pub returns-clause-advances : goal.returns-clause-advances
returns-clause-advances c = pass_advances c.args.site.now c.requires.fit c.args.p c.args.part c.args.node.0 c.args.inst.0 c.args.port c.requires.step c.args.store.now
    c.put.new.store c.requires.store c.kid-q.result c.kid-q.ensures
    c.at-x.result c.at-x.ensures c.plan_at.result.now c.plan_at.ensures c.input_readers-readers.result.now c.input_readers-readers.ensures c.put.ensures

pub returns-clause-taken : goal.returns-clause-taken
returns-clause-taken c = pass_takes c.args.site.now c.requires.fit c.args.p c.args.part c.args.node.0 c.args.inst.0 c.args.port c.requires.step c.args.store.now c.put.new.store
    c.requires.store c.kid-q.result c.kid-q.ensures
    c.at-x.result c.at-x.ensures c.plan_at.result.now c.plan_at.ensures c.input_readers-readers.result.now c.input_readers-readers.ensures c.put.ensures
