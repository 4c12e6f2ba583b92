use Rattle.hc_hierstate.proofs.Held.{memory_held, register_held}
use Rattle.hc_hierstate.proofs.Plain.{plain_held}
use Rattle.hc_hierstate.proofs.Stated.{is_state}
use Rattle.hc_hierstate.proofs.laws.rows_are_states.Goals as goal

pub returns-clause-state : goal.returns-clause-state
returns-clause-state c h top l registers words legal lay are =
    is_state h top l registers words legal lay (λ path r. c.instances_have_places.ensures.reached h top l path legal lay r)
    (λ path p e. c.instances_have_places.ensures.only h top l path p legal lay e)
    (λ path p e. c.instances_have_places.ensures.graphs h top l path p legal lay e) c.canonical_rows_are_reached.ensures.nodes c.canonical_rows_are_reached.ensures.memories are

pub returns-clause-registers : goal.returns-clause-registers
returns-clause-registers c forms top l registers words path p entry id lay placed at has = register_held forms top l lay registers words path p entry placed at id has

pub returns-clause-memories : goal.returns-clause-memories
returns-clause-memories c forms top l registers words path p entry id lay placed at has = memory_held forms top l lay registers words path p entry placed at id has

pub returns-clause-nodes : goal.returns-clause-nodes
returns-clause-nodes c h top l registers words values path p n entry form x legal lay placed at found y plain =
    plain_held h.entries top l lay registers words values path p n entry form placed at found (legal.forms entry.0 form found).lawful x y plain
