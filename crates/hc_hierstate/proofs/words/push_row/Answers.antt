use Rattle.std.proofs.Common.{subst}
use Rattle.hc_signal.specs.Member.{Has}
use Rattle.hc_values.specs.Rows.{zeros_of_memory}
use Rattle.hc_values.proofs.Shapes.{item_has}
use Rattle.hc_hierstate.proofs.Pushed.{row_pushed}
use Rattle.hc_hierstate.proofs.words.push_row.Goals as goal

pub zeros-requires : goal.zeros-requires
zeros-requires c =
    let has : Has c.args.circuit.now.memories c.memory-item.result = subst (λ (l : _). Has l c.memory-item.result) c.memories-memories.ensures
    (item_has c.memories-memories.result.now c.memories.memory-index c.memory-item.result c.memories-test.true c.memory-item.is) in
    (c.lawful.ensures.memories c.memory-item.result has).width

pub memories-preserved : goal.memories-preserved
memories-preserved c =
    row_pushed zeros_of_memory c.args.rows.now c.memories.rows c.push.new.self c.memories-memories.result.now c.memories.memory-index c.memory-item.result _
    c.memories.invariant c.memories-test.true c.memory-item.is c.in_ok-zeros.ensures c.in_ok-push.ensures.ok
