use Rattle.std.proofs.Common.{refl}
use Rattle.std.specs.Prelude.{slice_index_or}
use Rattle.hc_signal.specs.declared.signal.NodeId.{NodeId}
use Rattle.hc_store.proofs.Arms.{take_kid, take_port, take_place, take_there, take_within, take_takes, take_advances}
use Rattle.hc_store.proofs.steps.take_output.Goals as goal

abbrev zero_id : NodeId
zero_id = record { 0 = 0 }

pub form_at-requires-clause-instance : goal.form_at-requires-clause-instance
form_at-requires-clause-instance c = take_kid c.args.site.now c.requires.fit c.args.p c.args.part c.args.node.0 c.args.inst.0 c.args.port c.requires.step c.args.store.now
    c.args.store.now c.requires.store c.kid-q.result c.kid-q.ensures

pub bounds-outputs-port : goal.bounds-outputs-port
bounds-outputs-port c = take_port c.args.site.now c.requires.fit c.args.p c.args.part c.args.node.0 c.args.inst.0 c.args.port c.requires.step c.args.store.now c.args.store.now
    c.requires.store c.kid-q.result c.kid-q.ensures c.form_at.result.now c.form_at.ensures c.circuit.result.now c.circuit.ensures c.outputs.result.now c.outputs.ensures

pub at-x-requires : goal.at-x-requires
at-x-requires c = take_place c.args.site.now c.requires.fit c.args.p c.args.part c.args.node.0 c.args.inst.0 c.args.port c.requires.step c.args.store.now c.args.store.now
    c.requires.store c.kid-q.result c.kid-q.ensures c.form_at.result.now c.form_at.ensures c.circuit.result.now c.circuit.ensures c.outputs.result.now c.outputs.ensures zero_id
    (slice_index_or c.outputs.result.now c.args.port zero_id) refl

pub plan_at-requires-clause-instance : goal.plan_at-requires-clause-instance
plan_at-requires-clause-instance c = take_within c.args.site.now c.requires.fit c.args.p c.args.part c.args.node.0 c.args.inst.0 c.args.port c.requires.step c.args.store.now
    c.args.store.now c.requires.store

pub put-requires-clause-node : goal.put-requires-clause-node
put-requires-clause-node c = take_there c.args.site.now c.requires.fit c.args.p c.args.part c.args.node.0 c.args.inst.0 c.args.port c.requires.step c.args.store.now c.args.store.now c.requires.store

pub put-requires-clause-instance : goal.put-requires-clause-instance
put-requires-clause-instance c = take_within c.args.site.now c.requires.fit c.args.p c.args.part c.args.node.0 c.args.inst.0 c.args.port c.requires.step c.args.store.now
    c.args.store.now c.requires.store

pub returns-clause-advances : goal.returns-clause-advances
returns-clause-advances c = take_advances c.args.site.now c.requires.fit c.args.p c.args.part c.args.node.0 c.args.inst.0 c.args.port c.requires.step c.args.store.now
    c.put.new.store c.requires.store c.kid-q.result c.kid-q.ensures c.form_at.result.now c.form_at.ensures c.circuit.result.now c.circuit.ensures c.outputs.result.now
    c.outputs.ensures zero_id (slice_index_or c.outputs.result.now c.args.port zero_id) refl
    c.at-x.result c.at-x.ensures c.plan_at.result.now c.plan_at.ensures c.readers-readers.result.now c.readers-readers.ensures c.put.ensures

pub returns-clause-taken : goal.returns-clause-taken
returns-clause-taken c = take_takes c.args.site.now c.requires.fit c.args.p c.args.part c.args.node.0 c.args.inst.0 c.args.port c.requires.step c.args.store.now c.put.new.store
    c.requires.store c.kid-q.result c.kid-q.ensures c.form_at.result.now c.form_at.ensures c.circuit.result.now c.circuit.ensures c.outputs.result.now c.outputs.ensures zero_id
    (slice_index_or c.outputs.result.now c.args.port zero_id) refl
    c.at-x.result c.at-x.ensures c.plan_at.result.now c.plan_at.ensures c.readers-readers.result.now c.readers-readers.ensures c.put.ensures
