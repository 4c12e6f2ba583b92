use Rattle.hc_hierstate.proofs.Changed.{reset_is}
use Rattle.hc_hierstate.proofs.Stepped.{registers_reset}
use Rattle.hc_hierstate.proofs.circuit_laws.resets_of_circuits.Goals as goal

pub returns : goal.returns
returns c forms top l t old new words lay circuits step = reset_is forms top l lay t old new words (registers_reset forms l t old new circuits step)
