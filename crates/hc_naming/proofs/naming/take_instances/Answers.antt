use Rattle.std.proofs.Common.{◌<◌, length, refl, ap, subst, arith}
use Rattle.hc_naming.specs.ModuleNames.{want_instance, want_cells}
use Rattle.hc_naming.specs.NameTable.{IsNaming}
use Rattle.hc_naming.proofs.Slots.{instance_named}
use Rattle.hc_naming.proofs.Taking.{at_place, wants_cut, filled_as}
use Rattle.hc_naming.proofs.naming.take_instances.Goals as goal

pub loop-k-preserved : goal.loop-k-preserved
loop-k-preserved c =
    let g = c.args.form.now.circuit in
    let lt : c.loop-k.k < length c.loop-k.names.instances.items = omega (arith, ap length c.requires.all) in
    instance_named g c.canonical.ensures.lawful c.canonical.ensures.canonical _ _ c.loop-k.names _ _ _ c.loop-k.k refl refl refl lt
    (filled_as _ _ _ _ _ c.in_ok-wanted.ensures c.in_ok-fill.ensures)
    (subst (IsNaming g c.loop-k.used c.loop-k.names) (wants_cut want_instance c.args.instances.now c.loop-k.k c.index-instances-k.result
    (at_place _ _ _ c.loop-k-test.true c.index-instances-k.is) (want_cells g)) c.loop-k.invariant)
