use Rattle.std.proofs.Common.{◌≡◌, ◌-◌, ◌<◌, ◌≤◌, length, arith, ◌∙◌, ap}
use Rattle.std.specs.Prelude.{min}
use Rattle.std.proofs.lemmas.Option.{slice_get-get_or}
use Rattle.hc_values.proofs.Shapes.{case_within}
use Rattle.hc_values.proofs.Computing.{mux_picks}
use Rattle.hc_values.proofs.operands.mux.Goals as goal

pub operand-requires-clause-within : goal.operand-requires-clause-within
operand-requires-clause-within c =
    let is : c.min-place.result ≡ min c.value.result (length c.args.cases.now - 1) = c.min-place.ensures in
    let some : 1 ≤ length c.args.cases.now = c.requires.some in
    case_within c.args.circuit.now c.args.cases.now c.min-place.result (record { 0 = 0 }) c.requires.within (omega (arith, is, some))

pub returns : goal.returns
returns c =
    let is : c.min-place.result ≡ min c.value.result (length c.args.cases.now - 1) = c.min-place.ensures in
    let some : 1 ≤ length c.args.cases.now = c.requires.some in
    let within : c.min-place.result < length c.args.cases.now = omega (arith, is, some) in
    mux_picks c.args.circuit.now c.args.values.now c.args.sel c.args.cases.now c.min-place.result _ c.operand.result some
    (is ∙ ap (λ n. min n (length c.args.cases.now - 1)) c.value.ensures.value)
    (slice_get-get_or c.args.cases.now c.min-place.result _ within) c.operand.ensures
