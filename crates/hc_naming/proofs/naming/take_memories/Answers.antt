use Rattle.std.proofs.Common.{◌<◌, length, refl, ap, subst, arith}
use Rattle.hc_naming.specs.ModuleNames.{want_memory}
use Rattle.hc_naming.specs.NameTable.{IsNaming, from_instances}
use Rattle.hc_naming.proofs.Slots.{memory_named}
use Rattle.hc_naming.proofs.Taking.{at_place, wants_cut, filled_as}
use Rattle.hc_naming.proofs.naming.take_memories.Goals as goal

pub loop-k-preserved : goal.loop-k-preserved
loop-k-preserved c =
    let g = c.args.form.now.circuit in
    let lt : c.loop-k.k < length c.loop-k.names.memories.items = omega (arith, ap length c.requires.all) in
    memory_named g c.canonical.ensures.lawful c.canonical.ensures.canonical _ _ c.loop-k.names _ _ _ c.loop-k.k refl refl refl lt
    (filled_as _ _ _ _ _ c.in_ok-wanted.ensures c.in_ok-fill.ensures)
    (subst (IsNaming g c.loop-k.used c.loop-k.names) (wants_cut want_memory c.args.memories.now c.loop-k.k c.index-memories-k.result
    (at_place _ _ _ c.loop-k-test.true c.index-memories-k.is) (from_instances g)) c.loop-k.invariant)
