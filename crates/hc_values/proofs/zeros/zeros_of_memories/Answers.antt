use Rattle.std.proofs.Common.{subst}
use Rattle.hc_signal.specs.Member.{Has}
use Rattle.hc_values.proofs.Shapes.{item_has}
use Rattle.hc_values.proofs.zeros.zeros_of_memories.Goals as goal

pub zeros-requires : goal.zeros-requires
zeros-requires c =
    let has : Has c.args.circuit.now.memories c.memory-item.result = subst (λ (l : _). Has l c.memory-item.result) c.memories-memories.ensures
    (item_has c.memories-memories.result.now c.memories.memory-index c.memory-item.result c.memories-test.true c.memory-item.is) in
    (c.lawful.ensures.memories c.memory-item.result has).width
