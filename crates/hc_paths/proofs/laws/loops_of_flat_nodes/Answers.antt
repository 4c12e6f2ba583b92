use Rattle.hc_paths.proofs.FlatWalks.{loop_from_flat, flat_from_loop}
use Rattle.hc_paths.proofs.laws.loops_of_flat_nodes.Goals as goal

pub returns : goal.returns
returns c t whole = (loop_from_flat t, flat_from_loop t whole)
