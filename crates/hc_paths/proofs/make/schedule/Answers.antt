use Rattle.std.proofs.Common.{[]}
use Rattle.std.proofs.lemmas.Result.{err_from_is_err_and}
use Rattle.hc_signal.specs.Tree.{leaf}
use Rattle.hc_paths.proofs.KidMasks.{loop_whole, loop_local, no_kids}
use Rattle.hc_paths.proofs.Orders.{schedule_right}
use Rattle.hc_paths.proofs.make.schedule.Goals as goal

pub returns-clause-schedule : goal.returns-clause-schedule
returns-clause-schedule c = schedule_right c.args.circuit.now [] c.into_vec.result.items _ c.into_vec.ensures c.in_ok-order.ensures.order

pub returns-clause-free : goal.returns-clause-free
returns-clause-free c x = c.in_ok-order.ensures.free (loop_local (leaf c.args.circuit.now) [] c.lawful.ensures (no_kids _ c.requires) x)

pub returns-in_err-order-clause-cycle : goal.returns-in_err-order-clause-cycle
returns-in_err-order-clause-cycle c =
    let p = err_from_is_err_and c.from_residual.result c.from_residual.ensures.1 in
    rw (p.1, p.2) (λ e. loop_whole (leaf c.args.circuit.now) [] c.lawful.ensures (no_kids _ c.requires) (c.in_err-order.ensures.cycle e))
