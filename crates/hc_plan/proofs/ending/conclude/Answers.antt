use Rattle.std.proofs.Common.{subst}
use Rattle.hc_plan.specs.Concluded.{IsEndOf}
use Rattle.hc_plan.specs.Stepping.{outs_of}
use Rattle.hc_plan.proofs.EndSteps.{all_finished, concluded, loop_is_fault, open_within, stop_is_fault}
use Rattle.hc_plan.proofs.ending.conclude.Goals as goal

pub returns-in-Ok-Finished-clause-hierarchy : goal.returns-in-Ok-Finished-clause-hierarchy
returns-in-Ok-Finished-clause-hierarchy c =
    let ended = subst (IsEndOf (outs_of c.args.outs.items)) c.in-Ok-Finished.field-0-is c.in-Ok-Finished.ensures in
    concluded _ c.args.plan c.args.outs.items c.requires.outcomes _ _ _ ended c.as_slice.ensures c.stop_or_hier.ensures.whole c.stop_or_hier.ensures.hierarchy

pub returns-in-Ok-Finished-clause-fault : goal.returns-in-Ok-Finished-clause-fault
returns-in-Ok-Finished-clause-fault c =
    let ended = subst (IsEndOf (outs_of c.args.outs.items)) c.in-Ok-Finished.field-0-is c.in-Ok-Finished.ensures in
    stop_is_fault _ _ _ c.requires.plan _ (c.plans_decide.ensures.finished _ _ _ _ c.requires.plan c.requires.outcomes (all_finished _ _ c.requires.outcomes _ ended)) c.stop_or_hier.ensures.fault

pub returns-in-Ok-OpenAt-clause-fault : goal.returns-in-Ok-OpenAt-clause-fault
returns-in-Ok-OpenAt-clause-fault c =
    let ended = subst (IsEndOf (outs_of c.args.outs.items)) c.in-Ok-OpenAt.field-0-is c.in-Ok-OpenAt.ensures in
    loop_is_fault _ c.args.plan.rows c.in-Ok-OpenAt.place _ (open_within _ _ c.requires.outcomes _ ended.0) c.loop_at.ensures
    (λ row at. c.plans_decide.ensures.loops _ _ _ _ c.requires.plan c.requires.outcomes c.in-Ok-OpenAt.place row at ended.0 ended.1)
