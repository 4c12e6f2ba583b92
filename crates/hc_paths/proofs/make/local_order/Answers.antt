use Rattle.std.proofs.Common.{◌≡◌, refl}
use Rattle.std.proofs.lemmas.Result.{err_from_is_err_and}
use Rattle.hc_signal.specs.Tree.{tree}
use Rattle.hc_paths.specs.declared.kinds.PathStop.{PathStop}
use Rattle.hc_paths.specs.declared.kinds.PathStop.TheVariants.{Loop, NoMemory}
use Rattle.hc_paths.proofs.KidMasks.{loop_whole}
use Rattle.hc_paths.proofs.make.local_order.Goals as goal

no_loop : (stop : PathStop) → ¬ (stop ≡ Loop) → stop ≡ NoMemory
no_loop Loop n = absurd (n refl)
no_loop NoMemory n = refl

pub returns-in_err-order-clause-answered : goal.returns-in_err-order-clause-answered
returns-in_err-order-clause-answered c =
    let p = err_from_is_err_and c.from_residual.result c.from_residual.ensures.1 in
    rw (p.1, p.2) (λ trees a free. no_loop _ (λ e. free (loop_whole (tree c.args.circuit.now trees) _ c.lawful.ensures a (c.in_err-order.ensures.cycle e))))
