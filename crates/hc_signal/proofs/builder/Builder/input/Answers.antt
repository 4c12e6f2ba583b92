use Rattle.std.proofs.Common.{◌≡◌, length, ap, arith}
use Rattle.hc_signal.proofs.AddedPorts.{kept_input}
use Rattle.hc_signal.proofs.builder.Builder.input.Goals as goal

pub invariant_of-self-2 : goal.invariant_of-self-2
invariant_of-self-2 c =
    let at : c.len-port.result ≡ length c.self.inside.inputs.items = omega (arith, ap length c.reserve.ensures.items) in
    kept_input _ _ _ c.in_ok-width.width _ _ _ _ _ _ _ _ _ _ c.self.invariant c.self.view_is c.requires.room c.in_ok-width.ensures.value.1 at
    c.push_reserved.ensures.items c.reserve.ensures.items c.push_reserved-2.ensures.items c.reserve-2.ensures.items c.push_reserved-3.ensures.items c.reserve-3.ensures.items
