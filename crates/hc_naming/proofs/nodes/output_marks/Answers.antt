use Rattle.std.proofs.Common.{◌<◌, ◌==◌, ◌||◌, length, get_or, ap, ◌∙◌, arith}
use Rattle.std.specs.List.{list_any}
use Rattle.hc_signal.specs.declared.signal.NodeId.{NodeId}
use Rattle.hc_naming.specs.NameTable.{mark_at}
use Rattle.hc_naming.proofs.Taking.{output_at}
use Rattle.hc_naming.proofs.Marks.{mark_none}
use Rattle.hc_naming.proofs.nodes.output_marks.Goals as goal

pub mark-requires : goal.mark-requires
mark-requires c k lt =
    let g = c.args.form.now.circuit in
    let within : (get_or c.outputs.result.now k (record { 0 = 0 })).0 < length g.nodes =
    output_at g c.outputs.result.now k (record { 0 = 0 }) c.canonical.ensures.lawful (c.outputs.ensures ∙ ap (λ x. x.outputs) c.circuit-circuit.ensures) lt in
    omega (arith, within, c.in_ok-marks.ensures.len, ap length c.nodes.ensures, ap (λ x. length x.nodes) c.circuit-circuit.ensures)

pub returns : goal.returns
returns c = record {
  right = λ n.
      c.mark.ensures n
      ∙ ap (λ marks. mark_at marks n || list_any (λ (id : NodeId). id.0 == n) c.outputs.result.now) (c.in_ok-marks.ensures.items_if_clones_equal (λ y e. e))
      ∙ ap (λ b. b || list_any (λ (id : NodeId). id.0 == n) c.outputs.result.now) (mark_none (length c.nodes.result.now) n)
      ∙ ap (list_any (λ (id : NodeId). id.0 == n)) (c.outputs.ensures ∙ ap (λ x. x.outputs) c.circuit-circuit.ensures);
}
