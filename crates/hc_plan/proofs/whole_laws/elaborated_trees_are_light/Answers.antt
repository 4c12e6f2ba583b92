use Rattle.hc_signal.specs.Occurrences.{HasCombLoop}
use Rattle.hc_plan.proofs.LightTrees.{light_tree}
use Rattle.hc_plan.proofs.whole_laws.elaborated_trees_are_light.Goals as goal

pub returns : goal.returns
returns c d e x = light_tree HasCombLoop d (c.bodies_have_their_children.ensures d) x.1
