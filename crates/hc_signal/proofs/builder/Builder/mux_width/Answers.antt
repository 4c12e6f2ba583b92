use Rattle.std.proofs.Common.{arith}
use Rattle.hc_signal.proofs.Places.{has_get_or}
use Rattle.hc_signal.proofs.builder.Builder.mux_width.Goals as goal

pub width-width-requires : goal.width-width-requires
width-width-requires c = c.requires.case_nodes _ (has_get_or c.args.cases.now 0 _ (omega arith))
