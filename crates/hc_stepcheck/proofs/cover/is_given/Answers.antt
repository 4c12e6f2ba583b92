use Rattle.hc_steps.specs.Plan.{facts, steps_at}
use Rattle.hc_steps.specs.Views.{fact_view}
use Rattle.hc_steps.proofs.Lists.{has_at}
use Rattle.hc_stepcheck.proofs.cover.is_given.Goals as goal

pub returns-then-gives : goal.returns-then-gives
returns-then-gives c = λ t. (c.args.spot.part, has_at (facts (steps_at c.args.parts.now c.args.spot.part)) c.args.spot.step (fact_view c.args.fact) (c.gives.ensures c.if-gives.true))
