use Rattle.std.proofs.Common.{◌≡◌, take}
use Rattle.std.specs.Prelude.{sum_by}
use Rattle.hc_signal.specs.Weight.{node_weight}
use Rattle.hc_weights.proofs.circuits.weight_of_nodes.Given as goal

abbrev pub invariant-rows : goal.invariant-rows
invariant-rows l = l.sum ≡ sum_by node_weight (take l.row-index l.rows)
