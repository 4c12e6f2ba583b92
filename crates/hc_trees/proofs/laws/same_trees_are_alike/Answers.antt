use Rattle.hc_trees.proofs.Twins.{ports_of_same, loops_alike, depends_alike, masks_of_same}
use Rattle.hc_trees.proofs.laws.same_trees_are_alike.Goals as goal

pub returns-clause-ports : goal.returns-clause-ports
returns-clause-ports c = ports_of_same

pub returns-clause-loops : goal.returns-clause-loops
returns-clause-loops c = loops_alike

pub returns-clause-depends : goal.returns-clause-depends
returns-clause-depends c = depends_alike

pub returns-clause-masks : goal.returns-clause-masks
returns-clause-masks c = masks_of_same
