use Rattle.hc_edges.proofs.Instances.{plan_within}
use Rattle.hc_edges.proofs.waking.wake_readers.Goals as goal

pub plan-requires : goal.plan-requires
plan-requires c = plan_within c.args.clocked.now c.requires.fit.0 c.requires.fit.1 c.args.p c.requires.instance c.entry-id.result c.entry-id.ensures
