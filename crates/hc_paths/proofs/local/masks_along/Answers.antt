use Rattle.std.proofs.Common.{reverse, ◌∙◌}
use Rattle.hc_paths.proofs.LocalMasks.{have_bits}
use Rattle.hc_paths.proofs.Orders.{masks_right}
use Rattle.hc_paths.proofs.local.masks_along.Goals as goal

pub fill-requires : goal.fill-requires
fill-requires c = have_bits _ c.lawful.ensures c.requires.inputs

pub returns : goal.returns
returns c = masks_right _ _ (reverse c.args.order.now) _ _ _ _ c.lawful.ensures c.requires.order c.in_ok-masks.ensures c.as_slice.ensures.value c.outputs.ensures (c.from_vec.ensures ∙ c.in_ok-list.ensures)
