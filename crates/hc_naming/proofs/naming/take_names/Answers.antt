use Rattle.std.proofs.Common.{◌++◌, map, sym, ap, subst, ◌∙◌}
use Rattle.hc_naming.specs.ModuleNames.{want_node}
use Rattle.hc_naming.specs.NameTable.{IsNaming, from_memories}
use Rattle.hc_naming.proofs.Slots.{naming_clock, inner_by_marks}
use Rattle.hc_naming.proofs.naming.take_names.Goals as goal

pub take_inputs-requires-clause-next : goal.take_inputs-requires-clause-next
take_inputs-requires-clause-next c =
    naming_clock c.args.form.now.circuit c.in_ok-names.names c.take_clock.new.used c.as_slice.result.now c.in_ok-take_clock.ensures
    (c.as_slice.ensures ∙ ap (λ p. p.inputs) (c.ports-ports.ensures ∙ ap (λ g. g.ports) c.circuit-circuit.ensures)) c.in_ok-names.ensures.empty
    (rw c.circuit-circuit.ensures at c.in_ok-names.ensures.room)

pub take_nodes-requires-clause-next : goal.take_nodes-requires-clause-next
take_nodes-requires-clause-next c =
    let g = c.args.form.now.circuit in
    subst (IsNaming g c.take_outputs.new.used c.take_outputs.new.names)
    (ap (λ ps. map (want_node g) ps ++ from_memories g) (sym (inner_by_marks g c.args.marks.now c.args.first c.args.rows.now c.requires.marks c.requires.first c.requires.rows)))
    c.in_ok-take_outputs.ensures
