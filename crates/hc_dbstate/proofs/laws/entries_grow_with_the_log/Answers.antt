use Rattle.hc_dbstate.proofs.Replayed.{log_single, log_grown}
use Rattle.hc_dbstate.proofs.laws.entries_grow_with_the_log.Goals as goal

pub returns-clause-single : goal.returns-clause-single
returns-clause-single c = log_single

pub returns-clause-grown : goal.returns-clause-grown
returns-clause-grown c = log_grown
