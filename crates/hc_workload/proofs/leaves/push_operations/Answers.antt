use Rattle.hc_workload.specs.Workload.{operation_line}
use Rattle.hc_workload.proofs.Pieces.{none_yet, one_more}
use Rattle.hc_workload.proofs.leaves.push_operations.Goals as goal

pub places-init : goal.places-init
places-init c = none_yet operation_line c.args.draft.now

pub places-preserved : goal.places-preserved
places-preserved c = one_more operation_line c.places.place c.args.draft.now _ _ c.places.invariant c.in_ok-push_operation.ensures
