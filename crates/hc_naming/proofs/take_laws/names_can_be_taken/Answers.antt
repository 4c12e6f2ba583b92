use Rattle.hc_naming.proofs.Takeable.{taken, taken_all}
use Rattle.hc_naming.proofs.take_laws.names_can_be_taken.Goals as goal

pub returns-clause-wants : goal.returns-clause-wants
returns-clause-wants c = taken c.names_can_be_mangled.ensures

pub returns-clause-graph : goal.returns-clause-graph
returns-clause-graph c = taken_all c.names_can_be_mangled.ensures
