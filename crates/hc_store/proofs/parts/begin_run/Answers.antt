use Rattle.std.proofs.Common.{sym, ◌∙◌}
use Rattle.hc_store.proofs.Runs.{begun, skipped}
use Rattle.hc_store.proofs.parts.begin_run.Goals as goal

pub returns-then-is_stale-clause-taken : goal.returns-then-is_stale-clause-taken
returns-then-is_stale-clause-taken c = begun c.args.site.now c.requires.fit c.args.p c.args.part c.args.inst.0 c.args.below c.requires.step c.kid-q.result c.kid-q.ensures
    c.args.store.now c.wake_takers.new.store c.requires.store (sym c.is_stale.ensures ∙ c.if-is_stale.true) c.wake_takers.ensures

pub returns-clause-taken : goal.returns-clause-taken
returns-clause-taken c = skipped c.args.site.now c.requires.fit c.args.p c.args.part c.args.inst.0 c.args.below c.requires.step c.kid-q.result c.kid-q.ensures
    c.args.store.now (sym c.is_stale.ensures ∙ c.if-is_stale.false)
