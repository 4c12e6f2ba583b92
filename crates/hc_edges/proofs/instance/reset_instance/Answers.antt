use Rattle.std.proofs.Common.{refl, ap, ◌∙◌}
use Rattle.hc_signal.specs.Graph.{Graph}
use Rattle.hc_values.specs.Rows.{node_widths}
use Rattle.hc_edges.specs.declared.contents.Contents.{Contents}
use Rattle.hc_edges.proofs.Instances.{form_within, refit_at, wide_registers, wide_words}
use Rattle.hc_edges.proofs.instance.reset_instance.Goals as goal

pub form-requires : goal.form-requires
form-requires c = form_within c.args.clocked.now c.args.contents.now c.requires.fit c.args.p c.requires.instance c.entry-id.result c.entry-id.ensures

pub reset_row-requires : goal.reset_row-requires
reset_row-requires c = wide_registers c.args.clocked.now c.args.contents.now c.requires.fit c.args.p c.requires.instance c.entry-id.result c.entry-id.ensures c.form.result.now c.form.ensures c.circuit-circuit.result.now c.circuit-circuit.ensures

pub returns-clause-fit : goal.returns-clause-fit
returns-clause-fit c =
    let new : Contents = record { registers = c.reset_row.new.registers; words = c.args.contents.now.words } in
    refit_at c.args.clocked.now c.args.contents.now new c.args.p c.entry-id.result c.form.result.now c.requires.fit c.entry-id.ensures c.form.ensures
    (c.reset_row.ensures.widths ∙ ap (λ (g : Graph). node_widths g.nodes) c.circuit-circuit.ensures)
    (wide_words c.args.clocked.now c.args.contents.now c.requires.fit c.args.p c.requires.instance c.entry-id.result c.entry-id.ensures c.form.result.now c.form.ensures c.form.result.now.circuit refl)
    (λ q n. record { registers = c.reset_row.ensures.rows q n; words = refl })
