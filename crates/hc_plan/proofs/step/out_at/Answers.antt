use Rattle.std.proofs.Common.{None, Some, sym, ◌∙◌}
use Rattle.hc_plan.proofs.Outs.{seen_past, seen_there}
use Rattle.hc_plan.proofs.step.out_at.Goals as goal

pub returns-in-Some-Some : goal.returns-in-Some-Some
returns-in-Some-Some c =
    let h = c.in-Some-Some.ensures.lookup in
    seen_there c.args.outs.now c.args.place (Some c.in-Some-Some.out) h.3.0 (sym c.in-Some-Some.field-0-is ∙ h.3.1 (Some c.in-Some-Some.out))

pub returns-in-Some-None : goal.returns-in-Some-None
returns-in-Some-None c =
    let h = c.in-Some-None.ensures.lookup in
    seen_there c.args.outs.now c.args.place None h.3.0 (sym c.in-Some-None.field-0-is ∙ h.3.1 None)

pub returns-in-None : goal.returns-in-None
returns-in-None c = seen_past c.args.outs.now c.args.place c.in-None.ensures.lookup.3
