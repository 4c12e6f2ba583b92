use Rattle.std.proofs.Common.{arith}
use Rattle.hc_steps.specs.declared.step.Step.{Step}
use Rattle.hc_steps.specs.declared.step.Step.TheVariants.{Make}
use Rattle.hc_steps.specs.Views.{step_view}
use Rattle.std.specs.Prelude.{slice_index_or}
use Rattle.hc_store.proofs.Runs.{call_lower, step_here, goes_on, goes_into, walks_end}
use Rattle.hc_store.proofs.parts.+run.Goals as goal
use Rattle.hc_store.proofs.parts.+run.Goals.{in-None, in-Some}

abbrev none : Step
none = Make (record { 0 = 0 })

pub start_step-requires-clause-step : goal.start_step-requires-clause-step
start_step-requires-clause-step g t c = step_here c.args.site.now c.requires.fit c.args.p c.args.part c.requires.instance c.steps_of-steps.result.now c.steps_of-steps.ensures
    c.steps.step-index none c.steps-test.true

pub run-requires : goal.run-requires
run-requires g t c =
    let begun = c.in-Some.ensures.taken in
    let lower = call_lower c.args.site.now c.requires.fit c.args.p c.args.part (step_view (slice_index_or c.steps_of-steps.result.now c.steps.step-index none))
    c.in-Some.call.instance c.in-Some.call.part c.steps.store c.start_step.new.store c.requires.instance begun in
    (omega (arith, lower), (c.requires.fit, (c.in-Some.ensures.advances.fit (c.steps.invariant.advances.fit c.requires.store), begun.there)))

pub steps-preserved : goal.steps-preserved
steps-preserved g t c = elim c.match-start_step.branch [
  | in-None w ↦
      let r = goes_on c.args.site.now c.requires.fit c.args.p c.args.part c.requires.instance c.steps_of-steps.result.now c.steps_of-steps.ensures c.args.store.now c.steps.store
      c.start_step.new.store c.match-start_step.store c.steps.step-index none c.steps-test.true
      c.steps.invariant.advances c.steps.invariant.walked w.in-None.ensures.advances w.in-None.ensures.taken w.store-is in
      record { advances = r.0; walked = r.1 }
  | in-Some w ↦
      let r = goes_into c.args.site.now c.requires.fit c.args.p c.args.part c.requires.instance c.steps_of-steps.result.now c.steps_of-steps.ensures c.args.store.now c.steps.store
      c.start_step.new.store w.run.new.store c.match-start_step.store c.steps.step-index none w.in-Some.call.instance w.in-Some.call.part c.steps-test.true
      c.steps.invariant.advances c.steps.invariant.walked w.in-Some.ensures.advances w.in-Some.ensures.taken w.run.ensures.advances w.run.ensures.walked w.store-is in
      record { advances = r.0; walked = r.1 }
]

pub returns-clause-walked : goal.returns-clause-walked
returns-clause-walked g t c = walks_end c.args.site.now c.requires.fit c.args.p c.args.part c.requires.instance c.steps_of-steps.result.now c.steps_of-steps.ensures
    c.args.store.now c.steps.store c.steps.step-index c.steps-test.false c.steps.invariant.walked
