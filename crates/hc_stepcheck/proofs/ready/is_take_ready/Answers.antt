use Rattle.std.proofs.Common.{subst}
use Rattle.hc_signal.specs.Graph.{Graph}
use Rattle.hc_signal.specs.Lawful.{NodeAt}
use Rattle.hc_signal.specs.declared.signal.Node.TheVariants.{InstOut}
use Rattle.hc_steps.specs.Plan.{ran}
use Rattle.hc_steps.specs.Views.{IsKnownAt}
use Rattle.hc_stepcheck.proofs.Readiness.{take_ready}
use Rattle.hc_stepcheck.proofs.ready.is_take_ready.Goals as goal

pub returns-then-is_known : goal.returns-then-is_known
returns-then-is_known c = λ t.
    take_ready c.args.site.now.db.now.entries c.args.site.now.plans.now c.args.site.now.form.now c.args.site.now.plan.now.parts c.args.at.part c.args.at.step c.args.id.0 c.args.it.0 c.args.port
    c.in-Some.kid.now c.in-Some-kid_plan.plan.now c.parts.result.now c.in-Some-output_of.wire c.spot_of-spot.result.part c.spot_of-spot.result.step
    (c.is_reached.ensures c.if-is_reached.true) (subst (λ (z : Graph). NodeAt z c.args.id.0 (InstOut c.args.it c.args.port)) c.circuit.ensures
    (c.is_output.ensures c.if-is_output.true)) c.in-Some.ensures c.in-Some-kid_plan.ensures c.parts.ensures
    c.in-Some-output_of.ensures (c.gives.ensures c.if-gives.true)
    (subst (λ z. IsKnownAt c.args.site.now.form.now.circuit z c.args.at.part c.args.at.step (ran c.args.it.0 c.spot_of-spot.result.part)) c.parts-then-gives.ensures
    (c.is_known.ensures c.if-is_known.true c.args.site.now.form.now.circuit))
