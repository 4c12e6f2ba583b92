use Rattle.hc_hierstate.proofs.PathsPlaced.{many_paths, path_placed, placed_path}
use Rattle.hc_hierstate.proofs.path_laws.paths_are_places.Goals as goal

pub returns-clause-many : goal.returns-clause-many
returns-clause-many c forms top l lay = many_paths forms top l lay

pub returns-clause-places : goal.returns-clause-places
returns-clause-places c forms top l path p lay = (path_placed forms top l lay path p, placed_path forms top l lay path p)
