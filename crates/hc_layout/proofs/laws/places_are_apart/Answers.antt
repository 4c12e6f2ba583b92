use Rattle.hc_layout.proofs.Placed.{apart}
use Rattle.hc_layout.proofs.laws.places_are_apart.Goals as goal

pub returns : goal.returns
returns c forms top l path other p lay e f = apart forms top l lay path other p e f
