use Rattle.hc_hierstate.proofs.Changed.{edge_is}
use Rattle.hc_hierstate.proofs.Stepped.{memories_step, registers_step}
use Rattle.hc_hierstate.proofs.circuit_laws.edges_of_circuits.Goals as goal

pub returns : goal.returns
returns c forms top l t v values old new words after lay s step steps =
    edge_is forms top l lay t v old new words after (registers_step forms l t v values old new s step) (memories_step forms l t v values words after s steps)
