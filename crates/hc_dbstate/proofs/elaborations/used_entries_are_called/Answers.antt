use Rattle.hc_dbstate.proofs.Called.{top_within, called}
use Rattle.hc_dbstate.proofs.elaborations.used_entries_are_called.Goals as goal

pub returns-clause-top : goal.returns-clause-top
returns-clause-top c = top_within

pub returns-clause-called : goal.returns-clause-called
returns-clause-called c entries hier id over used = called entries hier over id used
