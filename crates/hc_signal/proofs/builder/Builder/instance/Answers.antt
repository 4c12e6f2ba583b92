use Rattle.std.proofs.Common.{◌≡◌, length, ap, ◌∙◌, ◌+◌, ◌*◌, ◌++◌, false, replicate, arith}
use Rattle.hc_signal.specs.Builds.{output_rows}
use Rattle.hc_signal.proofs.AddedInstances.{kept_instance, same_instance}
use Rattle.hc_signal.proofs.builder.Builder.instance.Goals as goal

pub invariant_of-self-2 : goal.invariant_of-self-2
invariant_of-self-2 c =
    let ports : _ = c.args.ports.now in
    let conns : _ = c.args.conns.now in
    let id : c.len.result ≡ length c.self.inside.instances.items = omega (arith, ap length c.reserve.ensures.items) in
    let base : c.len-2.result ≡ length c.self.inside.nodes.items = omega (arith, ap length c.reserve-3.ensures.items) in
    let total : c.self.inside.weight + (1 + 2 * length conns + length c.as_slice-outputs.result.now) ≡ c.self.inside.weight + (1 + 2 * length conns + length ports.outputs)
    = ap (λ n. c.self.inside.weight + (1 + 2 * length conns + n)) (ap length c.as_slice-outputs.ensures) in
    let new : c.push_reserved-2.new.self.items ≡ c.reserve.new.self.items ++ _ = c.push_reserved-2.ensures.items ∙ same_instance _ _ _ _ _ c.in_ok-copy_ports.ensures (c.from_vec.ensures ∙ c.in_ok-from_slice.ensures.items) in
    let rows : c.push_outputs.new.nodes.items ≡ c.reserve-3.new.self.items ++ output_rows c.len.result 0 ports.outputs = c.push_outputs.ensures ∙ ap (λ ps. c.reserve-3.new.self.items ++ output_rows c.len.result 0 ps) c.as_slice.ensures in
    let marks : c.push_unmarked.new.marks.items ≡ c.reserve-4.new.self.items ++ replicate (length ports.outputs) false = c.push_unmarked.ensures ∙ ap (λ ps. c.reserve-4.new.self.items ++ replicate (length ps) false) c.as_slice-outputs.ensures in
    kept_instance _ c.args.self.now ports conns _ _ _ _ _ _ _ _ _ _ _ _ _ _ c.self.invariant c.self.view_is c.requires.room c.requires.ports c.requires.conns id base total
    new c.reserve.ensures.items rows c.reserve-3.ensures.items marks c.reserve-4.ensures.items c.push_reserved.ensures.items c.reserve-2.ensures.items
