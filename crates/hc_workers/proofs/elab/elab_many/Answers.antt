use Rattle.std.proofs.lemmas.Result.{IfOk-at_ok}
use Rattle.hc_turn.specs.Passes.{known}
use Rattle.hc_plan.specs.Stepping.{outs_of}
use Rattle.hc_workers.specs.Levels.{AreAllFinished}
use Rattle.hc_workers.proofs.Whole.{of_any_form, owns_distinct, top_fails}
use Rattle.hc_workers.proofs.elab.elab_many.Goals as goal

pub returns-in-Err-clause-fault : goal.returns-in-Err-clause-fault
returns-in-Err-clause-fault g c = top_fails _ _ c.in-Err.ensures.fault

pub conclude-requires-clause-outcomes : goal.conclude-requires-clause-outcomes
conclude-requires-clause-outcomes g c =
    of_any_form (known c.args.pass) (known c.finish_plan-pass.result.0) c.in-Ok.plan.rows (outs_of c.in-Ok-outs.outs.items)
    (IfOk-at_ok (λ outs. AreAllFinished (known c.args.pass) (known c.finish_plan-pass.result.0) c.in-Ok.plan.rows (outs_of outs.items)) c.in-Ok-outs.is c.finish_plan-pass.ensures.ok)

pub returns-in-Ok-conclude-clause-hierarchy : goal.returns-in-Ok-conclude-clause-hierarchy
returns-in-Ok-conclude-clause-hierarchy g c =
    let d = c.args.design.now in
    owns_distinct d (known c.args.pass) (known c.finish_plan-pass.result.0) c.in-Ok.plan c.in-Ok-outs.outs.items c.in-Ok-conclude.hier (c.designs_elaborate_once.ensures d)
    (c.plans_decide.ensures.finished d) (c.walks_are_finishes.ensures d) (c.plans_elaborate.ensures.hierarchy d)
    (c.plans_elaborate.ensures.turns d) c.known_turns_stay_known.ensures.there c.known_turns_stay_known.ensures.form c.in-Ok.ensures.ok
    (IfOk-at_ok (λ outs. AreAllFinished (known c.args.pass) (known c.finish_plan-pass.result.0) c.in-Ok.plan.rows (outs_of outs.items)) c.in-Ok-outs.is c.finish_plan-pass.ensures.ok)
    c.in-Ok-conclude.ensures.hierarchy
