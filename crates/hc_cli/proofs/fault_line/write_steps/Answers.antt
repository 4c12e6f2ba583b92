use Rattle.std.proofs.Common.{◌+◌, ◌++◌, drop, arith, flat_map, ap, sym, ◌∙◌}
use Rattle.std.proofs.lemmas.List.{at_drop_more}
use Rattle.hc_fault.specs.declared.fault.Ident.{Ident}
use Rattle.hc_cli.specs.FaultLine.{step_text}
use Rattle.hc_cli.proofs.Pieces.{sent_cut, sent_more}
use Rattle.hc_cli.proofs.fault_line.write_steps.Goals as goal

pub returns-in_err-write_step : goal.returns-in_err-write_step
returns-in_err-write_step g c =
    sent_cut _ _ _ _ _ _ c.from_residual.result _ _ (step_text c.step-item.result) (flat_map step_text (drop (c.steps.step-index + 1) c.args.steps.now)) c.from_residual.ensures.0
    c.steps.invariant.so_far c.steps.invariant.never_falls
    (at_drop_more (flat_map step_text) c.args.steps.now c.steps.step-index c.step-item.result c.steps-test.true
    ∙ ap (λ (step : Ident). step_text step ++ flat_map step_text (drop (c.steps.step-index + 1) c.args.steps.now)) (sym c.step-item.is))
    c.in_err-write_step.ensures.front c.in_err-write_step.ensures.cause.never_falls c.in_err-write_step.ensures.cause.failed

pub steps-preserved : goal.steps-preserved
steps-preserved g c = record {
  so_far = sent_more _ _ _ _ _ (step_text c.step-item.result) (flat_map step_text (drop (c.steps.step-index + 1) c.args.steps.now)) c.steps.invariant.so_far
      (at_drop_more (flat_map step_text) c.args.steps.now c.steps.step-index c.step-item.result c.steps-test.true
      ∙ ap (λ (step : Ident). step_text step ++ flat_map step_text (drop (c.steps.step-index + 1) c.args.steps.now)) (sym c.step-item.is))
      c.in_ok-write_step.ensures.all;
  never_falls = omega (arith, c.steps.invariant.never_falls, c.in_ok-write_step.ensures.cause.never_falls);
}
