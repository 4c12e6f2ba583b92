use Rattle.hc_hierstate.proofs.Changed.{edge_is}
use Rattle.hc_hierstate.proofs.laws.edges_of_rows.Goals as goal

pub returns : goal.returns
returns c forms top l t v old new words after lay step steps = edge_is forms top l lay t v old new words after step steps
