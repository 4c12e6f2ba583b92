use Rattle.hc_paths.proofs.LocalMasks.{have_bits}
use Rattle.hc_draft.proofs.masks.depends_of_few.Goals as goal

pub fill-requires : goal.fill-requires
fill-requires c = have_bits _ c.lawful.ensures c.requires
