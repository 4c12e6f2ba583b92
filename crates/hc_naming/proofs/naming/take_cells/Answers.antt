use Rattle.std.proofs.Common.{◌≡◌, ◌+◌, ◌-◌, ◌<◌, ◌∷◌, length, refl, ap, sym, subst, ◌∙◌, arith}
use Rattle.std.specs.Prelude.{decimal, true}
use Rattle.hc_naming.specs.ModuleNames.{first_number, want_cell, is_operation, is_operation_row}
use Rattle.hc_naming.specs.NameTable.{IsNaming}
use Rattle.hc_naming.proofs.Slots.{cell_named}
use Rattle.hc_naming.proofs.Taking.{at_place, passing_cut, filled_as}
use Rattle.hc_naming.proofs.naming.take_cells.Goals as goal

pub loop-k-preserved : goal.loop-k-preserved
loop-k-preserved c =
    let g = c.args.form.now.circuit in
    let k = c.loop-k.k in
    let first = c.args.first in
    let row = c.index-rows-k.result in
    let lt : first + k < length c.loop-k.names.cells.items = omega (arith, c.requires.room) in
    let number : k ≡ first + k - first_number g = omega (arith, c.requires.first) in
    let operation : is_operation row.node ≡ true = sym c.is_operation.ensures ∙ c.if-not-is_operation.false in
    cell_named g c.canonical.ensures.lawful c.canonical.ensures.canonical _ _ c.loop-k.names _ _ _ (first + k) refl refl refl lt
    (filled_as _ _ _ _ _ (c.in_ok-wanted.ensures ∙ ap (λ n. 111 ∷ decimal n) number) c.in_ok-fill.ensures)
    (subst (IsNaming g c.loop-k.used c.loop-k.names) (passing_cut (want_cell g) c.args.rows.now k row (at_place _ _ _ c.loop-k-test.true c.index-rows-k.is) is_operation_row first
    operation) c.loop-k.invariant)
