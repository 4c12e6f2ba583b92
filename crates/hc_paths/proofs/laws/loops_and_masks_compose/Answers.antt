use Rattle.hc_paths.proofs.KidMasks.{loop_whole, loop_local, depends_alike}
use Rattle.hc_paths.proofs.laws.loops_and_masks_compose.Goals as goal

pub returns-clause-loops : goal.returns-clause-loops
returns-clause-loops c t masks l a = (loop_local t masks l a, loop_whole t masks l a)

pub returns-clause-masks : goal.returns-clause-masks
returns-clause-masks c t masks l a = depends_alike t masks l a
