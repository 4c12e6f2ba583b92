use Rattle.hc_signal.proofs.Places.{has_get_or}
use Rattle.hc_signal.proofs.builder.Builder.have_width.Goals as goal

pub width-requires : goal.width-requires
width-requires c = c.requires _ (has_get_or c.args.ids.now c.loop-id.id-index _ c.loop-id-test.true)
