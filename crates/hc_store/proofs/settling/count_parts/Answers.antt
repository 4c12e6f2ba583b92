use Rattle.std.proofs.Common.{◌≡◌, length, sym, ap, ◌∙◌, arith}
use Rattle.hc_steps.specs.Compiled.{PlanView}
use Rattle.hc_store.proofs.settling.count_parts.Goals as goal

pub overflow_cast-result : goal.overflow_cast-result
overflow_cast-result c =
    let i = c.requires.fit.instances c.args.p c.requires.instance in
    let few = i.4.few in
    let e : length c.parts.result.now ≡ length i.2.parts = ap length c.parts.ensures ∙ ap (λ (q : PlanView). length q.parts) (sym (c.plan_at.ensures i.0 i.1 i.2 i.3)) in
    omega (arith, few, e)
