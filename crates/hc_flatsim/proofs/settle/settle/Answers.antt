use Rattle.hc_flatsim.specs.declared.plan.Make.TheVariants.{Same}
use Rattle.hc_flatsim.proofs.Planned.{step_is}
use Rattle.hc_flatsim.proofs.settle.settle.Goals as goal

pub settle_step-requires-clause-step : goal.settle_step-requires-clause-step
settle_step-requires-clause-step g c = step_is c.args.circuit.now c.args.plan.now c.plan.step-index (record { id = record { 0 = 0 }; make = Same (record { 0 = 0 }) }) c.requires.plan c.plan-test.true
