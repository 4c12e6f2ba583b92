use Rattle.std.proofs.Common.{rules, ◌≡◌, ◌++◌, ◌∙◌, ap₂}
use Rattle.hc_canon.specs.declared.form.EntryId.{EntryId}
use Rattle.hc_canon.specs.Layout.{picked}
use Rattle.hc_walk.specs.DepthFirst.{NumbersTo}
use Rattle.hc_canon.specs.Numbering.{instances_met}
use Rattle.hc_walk.specs.VertexId.{vertices_of}
use Rattle.hc_canon.proofs.Carried.{form_made, form_is_canon}
use Rattle.hc_canon.proofs.canon_form.canon.Goals as goal

pub of_parts-requires : goal.of_parts-requires
of_parts-requires c =
    let g = c.args.circuit.now in
    let end = vertices_of c.as_slice-met.result.now in
    let w : NumbersTo g end = search rules in
    let k : c.from_vec.result ≡ picked (λ (id : EntryId). id) c.args.kids.now (instances_met end) =
    c.from_vec.ensures ∙ c.in_ok-kids.ensures
    ∙ ap₂ (λ xs ns. xs ++ picked (λ (id : EntryId). id) c.args.kids.now ns) c.new.ensures.items (c.as_slice.ensures.value ∙ c.in_ok-order.ensures.instances) in
    form_made g c.lawful.ensures c.requires.checked end w _ c.in_ok-numbers.ensures c.args.kids.now c.requires.kids _ _ c.in_ok-made.ensures k

pub returns : goal.returns
returns c =
    let g = c.args.circuit.now in
    let end = vertices_of c.as_slice-met.result.now in
    let w : NumbersTo g end = search rules in
    let k : c.from_vec.result ≡ picked (λ (id : EntryId). id) c.args.kids.now (instances_met end) =
    c.from_vec.ensures ∙ c.in_ok-kids.ensures
    ∙ ap₂ (λ xs ns. xs ++ picked (λ (id : EntryId). id) c.args.kids.now ns) c.new.ensures.items (c.as_slice.ensures.value ∙ c.in_ok-order.ensures.instances) in
    form_is_canon g c.lawful.ensures c.requires.checked end w _ c.in_ok-numbers.ensures c.args.kids.now c.requires.kids _ _ _ c.in_ok-made.ensures k c.of_parts.ensures
