use Rattle.hc_workload.specs.Workload.{circuit}
use Rattle.hc_workload.proofs.Pieces.{none_yet, one_more}
use Rattle.hc_workload.proofs.levels.push_level.Goals as goal

pub places-init : goal.places-init
places-init c = none_yet (circuit c.args.level) c.args.draft.now

pub places-preserved : goal.places-preserved
places-preserved c = one_more (circuit c.args.level) c.places.place c.args.draft.now _ _ c.places.invariant c.in_ok-push_circuit.ensures
