use Rattle.std.proofs.Common.{◌≡◌, ◌+◌, ◌-◌, ◌<◌, ◌++◌, ◌∷◌, length, true, refl, ap, sym, subst, ◌∙◌, arith}
use Rattle.std.specs.Prelude.{if◌then◌else◌, unwrap_or, decimal, true, false}
use Rattle.hc_naming.specs.ModuleNames.{first_number, want_node}
use Rattle.hc_naming.specs.NameTable.{IsNaming, is_unmarked, from_memories}
use Rattle.hc_naming.proofs.Slots.{node_named}
use Rattle.hc_naming.proofs.Taking.{at_place, passing_cut, filled_as}
use Rattle.hc_naming.proofs.naming.take_nodes.Goals as goal

pub loop-k-preserved : goal.loop-k-preserved
loop-k-preserved c =
    let g = c.args.form.now.circuit in
    let k = c.loop-k.k in
    let first = c.args.first in
    let row = c.index-rows-k.result in
    let lt : first + k < length c.loop-k.names.nodes.items = omega (arith, c.requires.room) in
    let number : k ≡ first + k - first_number g = omega (arith, c.requires.first) in
    let inner : is_unmarked c.args.marks.now (first + k, row) ≡ true = ap (λ b. if b then false else true) (sym c.is_marked.ensures ∙ c.if-is_marked.false) in
    node_named g c.canonical.ensures.lawful c.canonical.ensures.canonical _ _ c.loop-k.names _ _ _ (first + k) refl refl refl lt
    (filled_as _ _ _ _ _ (c.in_ok-wanted.ensures ∙ ap (λ n. unwrap_or row.label (110 ∷ decimal n)) number) c.in_ok-fill.ensures)
    (subst (IsNaming g c.loop-k.used c.loop-k.names) (ap (λ ws. ws ++ from_memories g)
    (passing_cut (want_node g) c.args.rows.now k row (at_place _ _ _ c.loop-k-test.true c.index-rows-k.is) (is_unmarked c.args.marks.now) first inner)) c.loop-k.invariant)
