use Rattle.hc_hierstate.specs.Changes.{zero_row}
use Rattle.hc_hierstate.proofs.Pushed.{instance_pushed}
use Rattle.hc_hierstate.proofs.words.zero_words.Goals as goal

pub instances-preserved : goal.instances-preserved
instances-preserved c =
    instance_pushed zero_row c.args.db.now.entries c.args.layout.now.entries c.instances.p c.entry.result c.get.result.now c.circuit.result.now c.instances.rows c.push_row.new.rows
    c.instances.invariant c.entry.ensures c.get.ensures c.circuit.ensures c.in_ok-push_row.ensures
