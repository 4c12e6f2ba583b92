use Rattle.hc_body.proofs.Single.{one_body}
use Rattle.hc_body.proofs.laws.bodies_are_single.Goals as goal

pub returns : goal.returns
returns c = one_body
