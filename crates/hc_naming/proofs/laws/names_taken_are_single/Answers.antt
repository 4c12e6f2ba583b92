use Rattle.hc_naming.proofs.Named.{takes_single}
use Rattle.hc_naming.proofs.laws.names_taken_are_single.Goals as goal

pub returns : goal.returns
returns c = takes_single
