use Rattle.std.proofs.Common.{◌≡◌, sym, ◌∙◌}
use Rattle.hc_flatsim.proofs.Knowing.{at_rest, edge_stands, edge_steps, still_settled}
use Rattle.hc_flatsim.proofs.machine.FlatMachine.edge.Goals as goal

pub know-requires : goal.know-requires
know-requires c =
    let registers : c.step-in-Settled.new.self.registers ≡ c.args.self.now.registers = c.step-in-Settled.ensures.told_registers c.if-not-step.true in
    let memories : c.step-in-Settled.new.self.memories ≡ c.args.self.now.memories = c.step-in-Settled.ensures.told_memories c.if-not-step.true in (
      still_settled c.args.self.now c.step-in-Settled.new.self c.machine.ensures c.step-in-Settled.ensures.value registers memories (sym c.known.ensures ∙ c.in-Settled.is),
      at_rest c.args.self.now c.step-in-Settled.new.self c.machine.ensures c.step-in-Settled.ensures.value registers memories,
    )

pub returns-in-Nothing : goal.returns-in-Nothing
returns-in-Nothing c = edge_steps c.args.self.now c.step.new.self c.machine.ensures c.step.ensures.value

pub returns-then-not-step : goal.returns-then-not-step
returns-then-not-step c = edge_stands c.args.self.now c.step-in-Settled.new.self c.know.new.self c.machine.ensures c.step-in-Settled.ensures.value c.know.ensures

pub returns-else-not-step : goal.returns-else-not-step
returns-else-not-step c = edge_steps c.args.self.now c.step-in-Settled.new.self c.machine.ensures c.step-in-Settled.ensures.value
