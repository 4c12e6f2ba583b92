use Rattle.hc_store.proofs.Sites.{plan_there, one_plan}
use Rattle.hc_store.proofs.instance.plan_at.Goals as goal

pub plan-requires : goal.plan-requires
plan-requires c = plan_there c.args.site.now c.args.p c.requires.fit c.entry-id.result c.requires.instance c.entry-id.ensures

pub returns : goal.returns
returns c = λ id form plan is. one_plan c.args.site.now c.args.p id form plan c.entry-id.result c.plan.result.now is c.entry-id.ensures c.plan.ensures
