use Rattle.hc_workload.specs.Workload.{instance_line}
use Rattle.hc_workload.proofs.Pieces.{none_yet, one_more}
use Rattle.hc_workload.proofs.levels.push_instances.Goals as goal

pub places-init : goal.places-init
places-init c = none_yet (instance_line c.args.level) c.args.draft.now

pub places-preserved : goal.places-preserved
places-preserved c = one_more (instance_line c.args.level) c.places.place c.args.draft.now _ _ c.places.invariant c.in_ok-push_instance.ensures
