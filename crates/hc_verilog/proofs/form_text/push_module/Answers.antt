use Rattle.std.proofs.Common.{sym, ap, ap₂, subst, ◌∙◌}
use Rattle.std.specs.List.{enumerate_from}
use Rattle.hc_naming.specs.NameTable.{name_by, AreMarks}
use Rattle.hc_naming.proofs.Taking.{outputs_paired}
use Rattle.hc_naming.proofs.Slots.{inner_by_marks}
use Rattle.hc_verilog.specs.ModuleText.{module_of}
use Rattle.hc_verilog.proofs.Texts.{written_seven}
use Rattle.hc_verilog.proofs.Assembly.{module_by, results_named}
use Rattle.hc_verilog.proofs.form_text.push_module.Goals as goal

pub push_header-requires : goal.push_header-requires
push_header-requires c = rw c.circuit-circuit.ensures (outputs_paired c.args.form.now.circuit c.canonical.ensures.lawful)

pub returns : goal.returns
returns c =
    let g = c.args.form.now.circuit in
    let name = name_by c.args.tables.now.names in
    written_seven c.push.result _ _ _ _ _ _ _ _ _ _ _ _ _ _ _ _
    (module_by name g _ (module_of c.args.modules.now c.args.form.now.kids) _ c.args.title.now _ _ _ _ _ _
    c.circuit-circuit.ensures
    (inner_by_marks g _ c.first_place-first.result c.numbered_rows-rows.result.now (subst (AreMarks g) (sym c.as_slice.ensures.value) c.requires.marks) c.first_place-first.ensures
    c.numbered_rows-rows.ensures.rows)
    (ap₂ enumerate_from c.first_place-first.ensures c.numbered_rows-rows.ensures.rows)
    (c.memories.ensures ∙ ap (λ x. x.memories) c.circuit-circuit.ensures)
    (c.memories-2.ensures ∙ ap (λ x. x.memories) c.circuit-circuit.ensures)
    (c.instances.ensures ∙ ap (λ x. x.instances) c.circuit-circuit.ensures)
    (results_named name g c.args.tables.now.results.entries c.requires.results)
    (ap (module_of c.args.modules.now) c.kids.ensures))
    c.in_ok-push_header.ensures c.in_ok-push_declarations.ensures c.in_ok-push_memories.ensures c.in_ok-push_items.ensures c.in_ok-push_memory_blocks.ensures c.in_ok-push_instances.ensures
    c.push.ensures
