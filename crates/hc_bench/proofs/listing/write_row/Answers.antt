use Rattle.std.proofs.Common.{[], ◌∷◌, ◌++◌}
use Rattle.std.specs.Prelude.{codes, decimal}
use Rattle.hc_bench.specs.Listing.{values_text}
use Rattle.hc_bench.proofs.Pieces.{queued_then, queued_stop, stop_first, stop_second, stop_third}
use Rattle.hc_bench.proofs.listing.write_row.Goals as goal

pub returns-in_err-write_number : goal.returns-in_err-write_number
returns-in_err-write_number g c =
    let sim = g.S.Sim.runs c.args.sim.now in
    let outputs = c.args.outputs.now in
    stop_first _ _ _ _ _ _ _ c.from_residual.result (decimal c.args.cycle) (values_text outputs sim.before) (codes " |") (values_text outputs sim.after)
    (10 ∷ []) c.from_residual.ensures.0 c.in_err-write_number.ensures

pub returns-in_err-write_before : goal.returns-in_err-write_before
returns-in_err-write_before g c =
    let sim = g.S.Sim.runs c.args.sim.now in
    let outputs = c.args.outputs.now in
    let number = decimal c.args.cycle in
    let before = values_text outputs sim.before in
    let two = queued_then _ _ _ _ _ _ _ _ _ _ _ number before c.in_ok-write_number.ensures c.in_err-write_before.ensures in
    stop_second _ _ _ _ _ _ _ c.from_residual-in_err-write_before.result number before (codes " |") (values_text outputs sim.after) (10 ∷ []) c.from_residual-in_err-write_before.ensures.0 two

pub returns-in_err-write : goal.returns-in_err-write
returns-in_err-write g c =
    let sim = g.S.Sim.runs c.args.sim.now in
    let outputs = c.args.outputs.now in
    let number = decimal c.args.cycle in
    let before = values_text outputs sim.before in
    let two = queued_then _ _ _ _ _ _ _ _ _ _ _ number before c.in_ok-write_number.ensures c.in_ok-write_before.ensures in
    let three = queued_then _ _ _ _ _ _ _ _ _ _ _ (number ++ before) (codes " |") two c.in_err-write.ensures in
    stop_third _ _ _ _ _ _ _ c.from_residual-in_err-write.result number before (codes " |") (values_text outputs sim.after) (10 ∷ []) c.from_residual-in_err-write.ensures.0 three

pub returns-in_err-write_after : goal.returns-in_err-write_after
returns-in_err-write_after g c =
    let sim = g.S.Sim.runs c.args.sim.now in
    let outputs = c.args.outputs.now in
    let number = decimal c.args.cycle in
    let before = values_text outputs sim.before in
    let after = values_text outputs sim.after in
    let two = queued_then _ _ _ _ _ _ _ _ _ _ _ number before c.in_ok-write_number.ensures c.in_ok-write_before.ensures in
    let three = queued_then _ _ _ _ _ _ _ _ _ _ _ (number ++ before) (codes " |") two c.in_ok-write.ensures in
    let four = queued_then _ _ _ _ _ _ _ _ _ _ _ (number ++ before ++ codes " |") after three c.in_err-write_after.ensures in
    queued_stop _ _ _ _ _ _ _ c.from_residual-in_err-write_after.result (number ++ before ++ codes " |" ++ after) (10 ∷ []) c.from_residual-in_err-write_after.ensures.0 four

pub returns : goal.returns
returns g c =
    let sim = g.S.Sim.runs c.args.sim.now in
    let outputs = c.args.outputs.now in
    let number = decimal c.args.cycle in
    let before = values_text outputs sim.before in
    let after = values_text outputs sim.after in
    let two = queued_then _ _ _ _ _ _ _ _ _ _ _ number before c.in_ok-write_number.ensures c.in_ok-write_before.ensures in
    let three = queued_then _ _ _ _ _ _ _ _ _ _ _ (number ++ before) (codes " |") two c.in_ok-write.ensures in
    let four = queued_then _ _ _ _ _ _ _ _ _ _ _ (number ++ before ++ codes " |") after three c.in_ok-write_after.ensures in
    queued_then _ _ _ _ _ _ _ _ _ _ c.write-2.result (number ++ before ++ codes " |" ++ after) (10 ∷ []) four c.write-2.ensures
