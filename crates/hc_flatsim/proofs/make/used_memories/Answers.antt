use Rattle.std.proofs.lemmas.Result.{IfOk-weaker}
use Rattle.hc_flatsim.proofs.Started.{memories_met, memories_once}
use Rattle.hc_flatsim.proofs.make.used_memories.Goals as goal

pub returns-clause-each : goal.returns-clause-each
returns-clause-each c = IfOk-weaker c.memories_among.result _ _
    (λ ids e. memories_met c.args.circuit.now c.in_ok-met.met.items c.as_slice.result.now ids.items c.as_slice.ensures.value e c.in_ok-met.ensures.reached) c.memories_among.ensures

pub returns-clause-once : goal.returns-clause-once
returns-clause-once c = IfOk-weaker c.memories_among.result _ _
    (λ ids e. memories_once c.args.circuit.now c.in_ok-met.met.items c.as_slice.result.now ids.items c.as_slice.ensures.value e c.in_ok-met.ensures.in_order) c.memories_among.ensures
