use Rattle.std.proofs.Common.{◌≡◌, ◌<◌, ◌≤◌, length, get_or, refl, ap, subst, arith}
use Rattle.std.specs.List.{zip}
use Rattle.std.proofs.lemmas.Option.{slice_get-get_or}
use Rattle.std.proofs.lemmas.Slice.Zip.{length-zip}
use Rattle.hc_naming.specs.ModuleNames.{want_output}
use Rattle.hc_naming.specs.NameTable.{IsNaming, from_nodes}
use Rattle.hc_naming.proofs.Slots.{node_named}
use Rattle.hc_naming.proofs.Lists.{get_zipped}
use Rattle.hc_naming.proofs.Taking.{at_place, pairs_cut, pairs_over, outputs_paired, output_at}
use Rattle.hc_naming.proofs.naming.take_outputs.Goals as goal

pub bounds-ids-k : goal.bounds-ids-k
bounds-ids-k c =
    let paired : length c.args.form.now.circuit.outputs ≡ length c.args.form.now.circuit.ports.outputs = outputs_paired c.args.form.now.circuit c.canonical.ensures.lawful in
    omega (arith, ap length c.requires.ids, ap length c.requires.ports)

pub fill-requires : goal.fill-requires
fill-requires c =
    let g = c.args.form.now.circuit in
    let paired : length g.outputs ≡ length g.ports.outputs = outputs_paired g c.canonical.ensures.lawful in
    let lt : c.loop-k.k < length c.args.ids.now = omega (arith, ap length c.requires.ids, ap length c.requires.ports) in
    let within : (get_or c.args.ids.now c.loop-k.k (record { 0 = 0 })).0 < length g.nodes = output_at g c.args.ids.now c.loop-k.k (record { 0 = 0 }) c.canonical.ensures.lawful c.requires.ids lt in
    omega (arith, within)

pub loop-k-preserved : goal.loop-k-preserved
loop-k-preserved c =
    let g = c.args.form.now.circuit in
    let paired : length g.outputs ≡ length g.ports.outputs = outputs_paired g c.canonical.ensures.lawful in
    let here : c.loop-k.k < length c.args.ids.now = omega (arith, ap length c.requires.ids, ap length c.requires.ports) in
    let within : (get_or c.args.ids.now c.loop-k.k (record { 0 = 0 })).0 < length g.nodes = output_at g c.args.ids.now c.loop-k.k (record { 0 = 0 }) c.canonical.ensures.lawful c.requires.ids here in
    let lt : (get_or c.args.ids.now c.loop-k.k (record { 0 = 0 })).0 < length c.loop-k.names.nodes.items = omega (arith, within) in
    node_named g c.canonical.ensures.lawful c.canonical.ensures.canonical _ _ c.loop-k.names _ _ _ (get_or c.args.ids.now c.loop-k.k (record { 0 = 0 })).0 refl refl refl lt c.in_ok-fill.ensures
    (subst (IsNaming g c.loop-k.used c.loop-k.names)
    (pairs_cut want_output (zip c.args.ids.now c.args.ports.now) c.loop-k.k (get_or c.args.ids.now c.loop-k.k (record { 0 = 0 }), c.index-ports-k.result) (from_nodes g)
    (get_zipped c.args.ids.now c.args.ports.now c.loop-k.k _ _ (slice_get-get_or c.args.ids.now c.loop-k.k (record { 0 = 0 }) here) (at_place _ _ _ c.loop-k-test.true c.index-ports-k.is)))
    c.loop-k.invariant)

pub returns : goal.returns
returns c =
    let g = c.args.form.now.circuit in
    let over : length (zip c.args.ids.now c.args.ports.now) ≤ c.loop-k.k = omega (arith, length-zip c.args.ids.now c.args.ports.now) in
    subst (IsNaming g c.loop-k.used c.loop-k.names) (pairs_over want_output (zip c.args.ids.now c.args.ports.now) c.loop-k.k (from_nodes g) over) c.loop-k.invariant
