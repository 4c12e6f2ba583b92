use Rattle.hc_signal.specs.Occurrences.{HasCombLoop}
use Rattle.hc_plan.proofs.CheckedTrees.{checked_calls}
use Rattle.hc_plan.proofs.EachCall.{few_calls}
use Rattle.hc_plan.proofs.WholeTrees.{whole_calls}
use Rattle.hc_plan.proofs.call_laws.elaborated_calls_are_lawful.Goals as goal

pub returns-clause-few : goal.returns-clause-few
returns-clause-few c d e x = few_calls HasCombLoop d x.1

pub returns-clause-whole : goal.returns-clause-whole
returns-clause-whole c d e x = whole_calls d (c.bodies_are_lawful.ensures d) (c.bodies_have_their_ports.ensures d) (c.bodies_have_their_children.ensures d) HasCombLoop x.1

pub returns-clause-checked : goal.returns-clause-checked
returns-clause-checked c d e x call m =
    checked_calls HasCombLoop d x.1 call m
    (whole_calls d (c.bodies_are_lawful.ensures d) (c.bodies_have_their_ports.ensures d) (c.bodies_have_their_children.ensures d) HasCombLoop x.1 call m)
