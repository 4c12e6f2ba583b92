use Rattle.std.proofs.Common.{refl, ap, sym, ◌∙◌}
use Rattle.std.specs.Prelude.{Some}
use Rattle.hc_signal.specs.Builds.{labelled_row}
use Rattle.hc_signal.proofs.Drives.{changed_rows}
use Rattle.hc_signal.proofs.LabelledNodes.{kept_node_label, row_there, row_labelled}
use Rattle.hc_signal.proofs.builder.Builder.label_node.Goals as goal

pub invariant_of-self : goal.invariant_of-self
invariant_of-self c =
    let label : _ = row_labelled c.index_mut-row.result.now c.put_label.new.place c.args.label.now (c.put_label.ensures ∙ ap Some (c.in_ok-label.ensures ∙ c.bytes.ensures)) in
    kept_node_label _ c.args.self.now c.args.id c.args.label.now c.index_mut-row.result.now _ _ _ _ _ _ _ c.self.invariant c.self.view_is c.requires c.index_mut-row.ensures.value
    c.is_port_node.ensures c.in_ok-check_label.ensures label refl

pub returns-clause-made : goal.returns-clause-made
returns-clause-made c =
    let label : _ = row_labelled c.index_mut-row.result.now c.put_label.new.place c.args.label.now (c.put_label.ensures ∙ ap Some (c.in_ok-label.ensures ∙ c.bytes.ensures)) in
    changed_rows _ c.args.self.now c.args.id.0 (labelled_row c.args.label.now) c.index_mut-row.result.now _ _ c.self.view_is
    (row_there _ c.args.self.now c.args.id.0 _ c.self.view_is c.requires c.index_mut-row.ensures.value) label refl
