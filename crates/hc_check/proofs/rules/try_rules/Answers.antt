use Rattle.std.proofs.Common.{rules, ◌≡◌, Some, None}
use Rattle.hc_signal.specs.Checked.{HasPorts}
use Rattle.hc_check.specs.Undriven.{least_undriven}
use Rattle.hc_check.proofs.Verdicts.{all_pass, undriven_stops}
use Rattle.hc_check.proofs.rules.try_rules.Goals as goal

pub returns-in-Some : goal.returns-in-Some
returns-in-Some c =
    let p : HasPorts c.args.circuit.now = search rules in
    let e : least_undriven c.args.circuit.now c.in_ok-met.met.items ≡ Some c.in-Some.node = search rules in
    undriven_stops _ _ c.in_ok-met.ensures.reached p c.in-Some.node e c.broken-in-Some.result c.broken-in-Some.ensures

pub returns : goal.returns
returns c =
    let p : HasPorts c.args.circuit.now = search rules in
    let e : least_undriven c.args.circuit.now c.in_ok-met.met.items ≡ None = search rules in
    all_pass _ _ c.in_ok-met.ensures.reached p e
