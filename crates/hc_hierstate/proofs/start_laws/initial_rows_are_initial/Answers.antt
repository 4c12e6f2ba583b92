use Rattle.hc_hierstate.specs.Changes.{initial_rows, zero_rows}
use Rattle.hc_hierstate.proofs.Started.{start_rows, start_state}
use Rattle.hc_hierstate.proofs.start_laws.initial_rows_are_initial.Goals as goal

pub returns-clause-rows : goal.returns-clause-rows
returns-clause-rows c h top l legal lay = start_rows h top l legal lay

pub returns-clause-state : goal.returns-clause-state
returns-clause-state c h top l legal lay =
    start_state h top l legal lay (λ path p e. c.instances_have_places.ensures.graphs h top l path p legal lay e)
    (c.rows_are_states.ensures.state h top l (initial_rows h.entries l) (zero_rows h.entries l) legal lay (start_rows h top l legal lay))
