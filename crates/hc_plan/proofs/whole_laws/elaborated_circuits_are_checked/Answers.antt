use Rattle.hc_signal.specs.Occurrences.{HasCombLoop}
use Rattle.hc_plan.proofs.CheckedTrees.{checked_circuits}
use Rattle.hc_plan.proofs.whole_laws.elaborated_circuits_are_checked.Goals as goal

pub returns : goal.returns
returns c d e x = checked_circuits HasCombLoop d x.1
