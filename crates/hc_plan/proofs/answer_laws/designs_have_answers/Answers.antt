use Rattle.hc_plan.proofs.Answered.{design_told}
use Rattle.hc_plan.proofs.answer_laws.designs_have_answers.Goals as goal

pub returns : goal.returns
returns c d none = design_told d (c.calls_have_answers.ensures d) (c.bodies_have_their_children.ensures d) (c.calls_of_the_top.ensures d) (λ t. none t.0 t.1)
