use Rattle.std.proofs.Common.{length, ap}
use Rattle.std.proofs.lemmas.Result.{err_from_is_err_and}
use Rattle.hc_paths.specs.Search.{state_of}
use Rattle.hc_paths.proofs.Searching.{step_inside, step_right, step_falls, step_cycle, begun}
use Rattle.hc_paths.proofs.search.order.Goals as goal

pub steps-init : goal.steps-init
steps-init c = begun _ _ _ c.nodes.result.now (ap length c.nodes.ensures) (state_of c.in_ok-search.search) c.in_ok-search.ensures

pub step-requires : goal.step-requires
step-requires c = step_inside _ _ _ c.requires (record { colours = c.steps.search.colours.items; stack = c.pop.new.self; order = c.steps.search.order }) _ _ c.steps.invariant c.in-Some.ensures

pub steps-smaller : goal.steps-smaller
steps-smaller c = step_falls _ _ c.args.roots.now _ _ _ (state_of c.step.new.self) c.steps.invariant c.in-Some.ensures c.in_ok-step.ensures.ok

pub steps-preserved : goal.steps-preserved
steps-preserved c = step_right _ _ _ _ _ _ (state_of c.step.new.self) c.steps.invariant c.in-Some.ensures c.in_ok-step.ensures.ok

pub returns-in_err-step-clause-cycle : goal.returns-in_err-step-clause-cycle
returns-in_err-step-clause-cycle c =
    let p = err_from_is_err_and c.from_residual-in_err-step.result c.from_residual-in_err-step.ensures.1 in
    rw (p.1, p.2) (λ e. step_cycle _ _ _ c.requires _ _ _ c.steps.invariant c.in-Some.ensures (c.in_err-step.ensures.stop e))
