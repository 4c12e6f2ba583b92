use Rattle.hc_body.proofs.Bodies.{body_children}
use Rattle.hc_body.proofs.laws.bodies_have_their_children.Goals as goal

pub returns : goal.returns
returns c = body_children
