use Rattle.std.proofs.Common.{◌<◌, length, get_or, ◌∙◌, arith}
use Rattle.std.proofs.lemmas.Option.{slice_get-get_or}
use Rattle.hc_naming.proofs.Slots.{length_set}
use Rattle.hc_naming.proofs.Marks.{mark_cut}
use Rattle.hc_naming.proofs.nodes.mark.Goals as goal

pub loop-id-preserved : goal.loop-id-preserved
loop-id-preserved c =
    let ids = c.args.ids.now in
    let k = c.loop-id.id-index in
    let within : (get_or ids k (record { 0 = 0 })).0 < length c.loop-id.marks.items = omega (arith, c.requires k c.loop-id-test.true, c.loop-id.invariant.same) in
    record {
      same = length_set c.loop-id.marks.items _ _ ∙ c.loop-id.invariant.same;
      right = λ n. mark_cut c.loop-id.marks.items ids k n (get_or ids k (record { 0 = 0 })) (slice_get-get_or ids k (record { 0 = 0 }) c.loop-id-test.true) within ∙ c.loop-id.invariant.right n;
    }
