use Rattle.hc_signal.specs.declared.signal.NodeRow.{NodeRow}
use Rattle.hc_values.specs.Rows.{zero_of}
use Rattle.hc_values.specs.Edges.{initial_of}
use Rattle.hc_hierstate.proofs.Pushed.{row_pushed}
use Rattle.hc_hierstate.proofs.registers.push_row.Goals as goal

pub nodes-preserved : goal.nodes-preserved
nodes-preserved c =
    row_pushed (λ (row : NodeRow). initial_of row.node (zero_of row.width)) c.args.rows.now c.nodes.rows c.push.new.self c.nodes-nodes.result.now c.nodes.node-index c.node-item.result c.initial.result
    c.nodes.invariant c.nodes-test.true c.node-item.is c.initial.ensures c.in_ok-push.ensures.ok
