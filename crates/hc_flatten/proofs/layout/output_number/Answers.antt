use Rattle.std.proofs.Common.{refl, ap, ◌∙◌}
use Rattle.std.specs.Prelude.{slice_get}
use Rattle.std.proofs.lemmas.Result.{IfOk-weaker}
use Rattle.hc_flatten.specs.Flattened.{id_or_zero}
use Rattle.hc_flatten.proofs.Kids.{kid_known, output_is, read_at}
use Rattle.hc_flatten.proofs.layout.output_number.Goals as goal

pub get-requires : goal.get-requires
get-requires c =
    kid_known _ c.legal.ensures c.args.form.now c.requires.entry c.args.i _
    (read_at c.args.form.now.kids c.kids.result.now _ c.args.i (record { 0 = 0 }) c.kids.ensures c.canonical.ensures.kids c.requires.there)

pub returns : goal.returns
returns c =
    IfOk-weaker c.sum.result _ _
    (λ k e. output_is _ c.legal.ensures c.args.form.now c.args.place.now c.args.i c.args.port _ c.get.result.now _ k c.id_at.result
    (read_at c.args.form.now.kids c.kids.result.now _ c.args.i (record { 0 = 0 }) c.kids.ensures c.canonical.ensures.kids c.requires.there)
    c.get.ensures
    (c.requires.starts.each c.args.i _ (read_at c.args.starts.now c.args.starts.now _ c.args.i (record { nodes = 0; memories = 0 }) refl c.requires.starts.many c.requires.there)).0
    (c.id_at.ensures ∙ ap (λ l. id_or_zero (slice_get l c.args.port)) (c.outputs-outputs.ensures ∙ ap (λ g. g.outputs) c.circuit.ensures))
    e)
    c.sum.ensures
