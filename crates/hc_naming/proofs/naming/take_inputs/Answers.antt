use Rattle.std.proofs.Common.{◌<◌, length, refl, ap, subst, arith}
use Rattle.hc_naming.specs.ModuleNames.{want_input}
use Rattle.hc_naming.specs.NameTable.{IsNaming, from_outputs}
use Rattle.hc_naming.proofs.Slots.{node_named}
use Rattle.hc_naming.proofs.Taking.{at_place, wants_cut}
use Rattle.hc_naming.proofs.naming.take_inputs.Goals as goal

pub loop-k-preserved : goal.loop-k-preserved
loop-k-preserved c =
    let g = c.args.form.now.circuit in
    let lt : c.loop-k.k < length c.loop-k.names.nodes.items = omega (arith, ap length c.requires.all) in
    node_named g c.canonical.ensures.lawful c.canonical.ensures.canonical _ _ c.loop-k.names _ _ _ c.loop-k.k refl refl refl lt c.in_ok-fill.ensures
    (subst (IsNaming g c.loop-k.used c.loop-k.names) (wants_cut want_input c.args.ports.now c.loop-k.k c.index-ports-k.result (at_place _ _ _ c.loop-k-test.true c.index-ports-k.is)
    (from_outputs g)) c.loop-k.invariant)
