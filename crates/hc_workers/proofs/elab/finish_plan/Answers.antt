use Rattle.std.proofs.Common.{subst, sym}
use Rattle.hc_turn.specs.Passes.{known}
use Rattle.hc_workers.specs.Levels.{AreByHeight}
use Rattle.hc_workers.proofs.Rows.{by_height, plan_finished}
use Rattle.hc_workers.proofs.elab.finish_plan.Goals as goal

pub finish_to-requires-clause-heights : goal.finish_to-requires-clause-heights
finish_to-requires-clause-heights g c κs within =
    let d = c.args.design.now in
    subst (λ l. AreByHeight l) (sym c.as_slice-rows.ensures) (by_height d c.args.plan.now.rows c.args.plan.now.stop (c.bodies_have_their_children.ensures d)
    (c.kids_are_lower.ensures.some d) (c.kids_are_lower.ensures.lower d) c.requires.plan)

pub returns-clause-ok : goal.returns-clause-ok
returns-clause-ok g c =
    let d = c.args.design.now in
    let heights : AreByHeight c.as_slice-rows.result.now =
    subst (λ l. AreByHeight l) (sym c.as_slice-rows.ensures) (by_height d c.args.plan.now.rows c.args.plan.now.stop (c.bodies_have_their_children.ensures d)
    (c.kids_are_lower.ensures.some d) (c.kids_are_lower.ensures.lower d) c.requires.plan) in
    plan_finished (known c.args.pass) (known c.finish_to.result.0) c.as_slice-rows.result.now c.args.plan.now.rows c.highest_of-highest.result c.finish_to.result.1
    c.as_slice-rows.ensures heights c.highest_of-highest.ensures c.finish_to.ensures.ok
