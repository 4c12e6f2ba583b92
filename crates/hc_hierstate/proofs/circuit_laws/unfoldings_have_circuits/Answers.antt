use Rattle.hc_hierstate.proofs.Stepped.{have_circuits}
use Rattle.hc_hierstate.proofs.circuit_laws.unfoldings_have_circuits.Goals as goal

pub returns : goal.returns
returns c h top l legal lay = have_circuits h.entries top l (λ path p e. c.instances_have_places.ensures.graphs h top l path p legal lay e)
