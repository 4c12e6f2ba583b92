use Rattle.std.proofs.Common.{◌≤◌, ℕ, List, length, subst, ◌∙◌, ap}
use Rattle.hc_signal.specs.declared.signal.Port.{Port}
use Rattle.hc_signal.specs.declared.signal.Ports.{Ports}
use Rattle.hc_steps.specs.Plan.{Part, IsGiven, passed}
use Rattle.hc_steps.proofs.Lists.{next}
use Rattle.hc_stepcheck.proofs.Covering.{inputs_given}
use Rattle.hc_stepcheck.proofs.cover.are_inputs_given.Goals as goal

pub ports-preserved : goal.ports-preserved
ports-preserved c =
    next (λ (k : ℕ). IsGiven c.args.site.now.plan.now.parts (passed c.args.it.0 k)) c.ports.port c.ports.invariant
    (subst (λ (z : List Part). IsGiven z (passed c.args.it.0 c.ports.port)) c.parts.ensures (c.is_given.ensures c.if-is_given.true))

pub returns : goal.returns
returns c = λ t.
    inputs_given c.args.site.now.db.now.entries c.args.site.now.form.now c.args.site.now.plan.now.parts c.args.it.0 c.in-Some.kid.now c.ports.port c.in-Some.ensures c.lawful.ensures
    (subst (λ (z : List Port). length z ≤ c.ports.port) (c.as_slice-len.ensures ∙ ap (λ (p : Ports). p.inputs) c.ports-2.ensures) c.ports-test.false) c.ports.invariant
