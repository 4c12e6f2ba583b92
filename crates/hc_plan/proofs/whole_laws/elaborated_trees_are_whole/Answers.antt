use Rattle.hc_signal.specs.Occurrences.{HasCombLoop}
use Rattle.hc_plan.proofs.WholeTrees.{whole_tree}
use Rattle.hc_plan.proofs.whole_laws.elaborated_trees_are_whole.Goals as goal

pub returns : goal.returns
returns c d e x = whole_tree d (c.bodies_are_lawful.ensures d) (c.bodies_have_their_ports.ensures d) (c.bodies_have_their_children.ensures d) HasCombLoop x.1
