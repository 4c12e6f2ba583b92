use Rattle.std.proofs.Common.{◌≡◌, [], ◌∷◌, ◌∙◌, append_assoc}
use Rattle.std.specs.Vec.Iter.{into_iter_items}
use Rattle.hc_plan.proofs.EndSteps.{one_done_more, open_after}
use Rattle.hc_plan.proofs.ending.end_of.Goals as goal

pub outs-preserved : goal.outs-preserved
outs-preserved c =
    let steps : into_iter_items c.outs.out-iterator ≡ c.in-Some.out ∷ into_iter_items c.next.new.self = c.in-Some.ensures.steps.0 in (
      append_assoc c.outs.yielded (c.in-Some.out ∷ []) _ ∙ rw (← steps) c.outs.invariant.0,
      one_done_more c.outs.yielded _ _ _ _ c.in-Some-out.is c.outs.invariant.1 c.in_ok-add-in-Some-out.ensures,
    )

pub returns-in-None-out : goal.returns-in-None-out
returns-in-None-out c =
    open_after c.outs.yielded c.args.outs.items _ _ _ _ _ c.in-None-out.is c.as_slice.ensures c.outs.invariant.1 c.in-Some.ensures.steps.0
    (c.outs.invariant.0 ∙ c.into_iter-out-iterator.ensures.into_iter_gives.0)
