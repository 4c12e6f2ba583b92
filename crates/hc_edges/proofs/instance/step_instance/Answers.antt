use Rattle.std.proofs.Common.{map, ap, ◌∙◌}
use Rattle.hc_signal.specs.Graph.{Graph}
use Rattle.hc_values.specs.Rows.{node_widths, memory_widths}
use Rattle.hc_edges.specs.declared.contents.Contents.{Contents}
use Rattle.hc_edges.proofs.Instances.{form_within, refit_at, wide_registers, wide_values, wide_words}
use Rattle.hc_edges.proofs.instance.step_instance.Goals as goal

pub form-requires : goal.form-requires
form-requires c = form_within c.args.clocked.now c.args.contents.now c.requires.fit c.args.p c.requires.instance c.entry-id.result c.entry-id.ensures

pub step_row-stepped-requires-clause-values : goal.step_row-stepped-requires-clause-values
step_row-stepped-requires-clause-values c =
    wide_values c.args.clocked.now c.args.contents.now c.requires.fit c.args.p c.requires.instance c.entry-id.result c.entry-id.ensures c.form.result.now c.form.ensures c.circuit-circuit.result.now c.circuit-circuit.ensures
    c.args.store.now c.requires.store c.row-values.result.now c.row-values.ensures

pub step_row-stepped-requires-clause-registers : goal.step_row-stepped-requires-clause-registers
step_row-stepped-requires-clause-registers c =
    wide_registers c.args.clocked.now c.args.contents.now c.requires.fit c.args.p c.requires.instance c.entry-id.result c.entry-id.ensures c.form.result.now c.form.ensures c.circuit-circuit.result.now c.circuit-circuit.ensures

pub write_row-written-requires-clause-values : goal.write_row-written-requires-clause-values
write_row-written-requires-clause-values c =
    wide_values c.args.clocked.now c.args.contents.now c.requires.fit c.args.p c.requires.instance c.entry-id.result c.entry-id.ensures c.form.result.now c.form.ensures c.circuit-circuit.result.now c.circuit-circuit.ensures
    c.args.store.now c.requires.store c.row-values.result.now c.row-values.ensures

pub write_row-written-requires-clause-words : goal.write_row-written-requires-clause-words
write_row-written-requires-clause-words c =
    wide_words c.args.clocked.now c.args.contents.now c.requires.fit c.args.p c.requires.instance c.entry-id.result c.entry-id.ensures c.form.result.now c.form.ensures c.circuit-circuit.result.now c.circuit-circuit.ensures

pub returns-then-stepped-clause-fit : goal.returns-then-stepped-clause-fit
returns-then-stepped-clause-fit c =
    let new : Contents = record { registers = c.step_row-stepped.new.registers; words = c.write_row-written.new.words } in
    refit_at c.args.clocked.now c.args.contents.now new c.args.p c.entry-id.result c.form.result.now c.requires.fit c.entry-id.ensures c.form.ensures
    (c.step_row-stepped.ensures.widths ∙ ap (λ (g : Graph). node_widths g.nodes) c.circuit-circuit.ensures)
    (c.write_row-written.ensures.widths ∙ ap (λ (g : Graph). map memory_widths g.memories) c.circuit-circuit.ensures)
    (λ q n. record { registers = c.step_row-stepped.ensures.rows q n; words = c.write_row-written.ensures.rows q n })

pub returns-else-stepped-clause-fit : goal.returns-else-stepped-clause-fit
returns-else-stepped-clause-fit c =
    let new : Contents = record { registers = c.step_row-stepped.new.registers; words = c.write_row-written.new.words } in
    refit_at c.args.clocked.now c.args.contents.now new c.args.p c.entry-id.result c.form.result.now c.requires.fit c.entry-id.ensures c.form.ensures
    (c.step_row-stepped.ensures.widths ∙ ap (λ (g : Graph). node_widths g.nodes) c.circuit-circuit.ensures)
    (c.write_row-written.ensures.widths ∙ ap (λ (g : Graph). map memory_widths g.memories) c.circuit-circuit.ensures)
    (λ q n. record { registers = c.step_row-stepped.ensures.rows q n; words = c.write_row-written.ensures.rows q n })
