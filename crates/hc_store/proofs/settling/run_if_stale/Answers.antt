use Rattle.std.proofs.Common.{sym, ◌∙◌}
use Rattle.hc_store.proofs.Runs.{part_works, part_rests}
use Rattle.hc_store.proofs.settling.run_if_stale.Goals as goal

pub returns-then-is_stale-clause-settled : goal.returns-then-is_stale-clause-settled
returns-then-is_stale-clause-settled g c = part_works c.args.site.now c.args.part c.args.store.now c.run.new.store (sym c.is_stale.ensures ∙ c.if-is_stale.true) c.run.ensures.walked

pub returns-else-is_stale-clause-settled : goal.returns-else-is_stale-clause-settled
returns-else-is_stale-clause-settled g c = part_rests c.args.site.now c.args.part c.args.store.now (sym c.is_stale.ensures ∙ c.if-is_stale.false)
