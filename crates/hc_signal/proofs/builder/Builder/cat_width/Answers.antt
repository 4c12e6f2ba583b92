use Rattle.hc_signal.proofs.Places.{has_get_or}
use Rattle.hc_signal.proofs.builder.Builder.cat_width.Goals as goal

pub width-width-requires : goal.width-width-requires
width-width-requires c = c.requires.part_nodes _ (has_get_or c.args.parts.now c.loop-part.part-index _ c.loop-part-test.true)
