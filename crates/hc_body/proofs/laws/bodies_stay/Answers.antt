use Rattle.hc_body.proofs.Moving.{GivesMoved, body_moved, body_stays}
use Rattle.hc_body.proofs.laws.bodies_stay.Goals as goal

pub returns-clause-body : goal.returns-clause-body
returns-clause-body c d k args p q b x = body_stays d p q k args b x

pub returns-clause-answer : goal.returns-clause-answer
returns-clause-answer c d k args p q r x = (let g : GivesMoved d p q k args r = body_moved d p q k args r x in (g.other, g.body, g.moved))
