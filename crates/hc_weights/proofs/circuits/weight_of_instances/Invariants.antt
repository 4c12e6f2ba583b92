use Rattle.std.proofs.Common.{◌≡◌, take}
use Rattle.std.specs.Prelude.{sum_by}
use Rattle.hc_signal.specs.Weight.{instance_weight}
use Rattle.hc_weights.proofs.circuits.weight_of_instances.Given as goal

abbrev pub invariant-instances : goal.invariant-instances
invariant-instances l = l.sum ≡ sum_by instance_weight (take l.instance-index l.instances)
