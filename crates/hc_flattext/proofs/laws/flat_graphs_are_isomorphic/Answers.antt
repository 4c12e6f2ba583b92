use Rattle.hc_flattext.proofs.FlatGraphs.{flats_same}
use Rattle.hc_flattext.proofs.laws.flat_graphs_are_isomorphic.Goals as goal

pub returns : goal.returns
returns c t g h whole f k = flats_same t whole g h f k
