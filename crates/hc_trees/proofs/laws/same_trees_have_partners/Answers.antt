use Rattle.hc_trees.proofs.Twins.{have_partners}
use Rattle.hc_trees.proofs.laws.same_trees_have_partners.Goals as goal

pub returns : goal.returns
returns c = have_partners
