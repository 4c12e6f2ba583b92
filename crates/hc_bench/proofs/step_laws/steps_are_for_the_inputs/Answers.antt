use Rattle.hc_bench.proofs.StepsFit.{are_steps}
use Rattle.hc_bench.proofs.step_laws.steps_are_for_the_inputs.Goals as goal

pub returns : goal.returns
returns c = are_steps
