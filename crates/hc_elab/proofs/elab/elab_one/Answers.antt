use Rattle.hc_elab.proofs.Concluded.{concluded, of_any_form, top_fails}
use Rattle.hc_elab.proofs.elab.elab_one.Goals as goal

pub returns-in-Err-clause-fault : goal.returns-in-Err-clause-fault
returns-in-Err-clause-fault c = top_fails _ _ c.in-Err.ensures.fault

pub conclude-requires-clause-outcomes : goal.conclude-requires-clause-outcomes
conclude-requires-clause-outcomes c = of_any_form _ _ _ _ c.in_ok-outs.ensures.ok

pub returns-in-Ok-conclude-clause-hierarchy : goal.returns-in-Ok-conclude-clause-hierarchy
returns-in-Ok-conclude-clause-hierarchy c =
    concluded c.args.design.now _ c.finish_rows.new.db _ _ _ (c.designs_elaborate_once.ensures c.args.design.now) (c.plans_elaborate.ensures.hierarchy c.args.design.now c.finish_rows.new.db)
    (c.plans_elaborate.ensures.turns c.args.design.now c.finish_rows.new.db) c.legal.ensures c.in-Ok.ensures.ok c.in_ok-outs.ensures.ok c.in-Ok-conclude.ensures.hierarchy
