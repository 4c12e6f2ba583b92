use Rattle.hc_stepcheck.proofs.Covering.{compiled}
use Rattle.hc_stepcheck.proofs.check.is_plan.Goals as goal

pub returns-then-are_listed : goal.returns-then-are_listed
returns-then-are_listed c = λ t.
    compiled c.args.site.now.db.now.entries c.args.site.now.plans.now c.args.site.now.form.now c.args.site.now.plan.now c.requires (c.is_noted.ensures c.if-is_noted.true)
    (c.are_listed.ensures c.if-are_listed.true)
    (c.are_parts_ready.ensures c.if-are_parts_ready.true) (c.are_nodes_given.ensures c.if-are_nodes_given.true) (c.are_kids_given.ensures c.if-are_kids_given.true)
