use Rattle.hc_hierstate.proofs.Changed.{reset_is}
use Rattle.hc_hierstate.proofs.laws.resets_of_rows.Goals as goal

pub returns : goal.returns
returns c forms top l t old new words lay step = reset_is forms top l lay t old new words step
