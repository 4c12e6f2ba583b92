use Rattle.hc_workload.specs.Workload.{leaf}
use Rattle.hc_workload.proofs.Pieces.{none_yet, one_more}
use Rattle.hc_workload.proofs.text.push_leaves.Goals as goal

pub places-init : goal.places-init
places-init c = none_yet leaf c.args.draft.now

pub places-preserved : goal.places-preserved
places-preserved c = one_more leaf c.places.place c.args.draft.now _ _ c.places.invariant c.in_ok-push_leaf.ensures
