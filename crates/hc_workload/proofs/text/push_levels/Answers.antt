use Rattle.hc_workload.specs.Workload.{level_circuits}
use Rattle.hc_workload.proofs.Pieces.{none_yet, one_more}
use Rattle.hc_workload.proofs.text.push_levels.Goals as goal

pub levels-init : goal.levels-init
levels-init c = none_yet level_circuits c.args.draft.now

pub levels-preserved : goal.levels-preserved
levels-preserved c = one_more level_circuits c.levels.level c.args.draft.now _ _ c.levels.invariant c.in_ok-push_level.ensures
