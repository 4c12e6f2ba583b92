use Rattle.hc_flattext.proofs.CarriedGraph.{flat_carried}
use Rattle.hc_flattext.proofs.carried.same_trees_flatten_alike.Goals as goal

pub returns : goal.returns
returns c s t g e ws wt fl = flat_carried s t g e ws wt fl
