use Rattle.hc_store.proofs.Arms.{node_within, rows_there}
use Rattle.hc_store.proofs.steps.number_of.Goals as goal

pub step_of-requires : goal.step_of-requires
step_of-requires g c = node_within c.args.site.now c.requires.fit c.args.p c.args.part c.args.node.0 c.requires.step c.args.values.now c.requires.values c.form_at.result.now
    c.form_at.ensures c.circuit-circuit.result.now c.circuit-circuit.ensures

pub value_of-requires-clause-kept : goal.value_of-requires-clause-kept
value_of-requires-clause-kept g c = rows_there c.args.site.now c.requires.fit c.args.p c.args.part c.args.node.0 c.requires.step c.args.values.now c.requires.values
    c.form_at.result.now c.form_at.ensures c.circuit-circuit.result.now c.circuit-circuit.ensures
    c.registers.result.now c.words.result.now c.registers.ensures c.words.ensures
