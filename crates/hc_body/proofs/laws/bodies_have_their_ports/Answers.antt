use Rattle.hc_body.proofs.Bodies.{body_ports}
use Rattle.hc_body.proofs.laws.bodies_have_their_ports.Goals as goal

pub returns : goal.returns
returns c = body_ports
