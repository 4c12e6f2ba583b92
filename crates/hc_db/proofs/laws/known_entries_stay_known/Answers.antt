use Rattle.hc_db.proofs.Known.{knows_own, knows_after, knows_still, knows_joined}
use Rattle.hc_db.proofs.laws.known_entries_stay_known.Goals as goal

pub returns-clause-own : goal.returns-clause-own
returns-clause-own c = knows_own

pub returns-clause-inserted : goal.returns-clause-inserted
returns-clause-inserted c = knows_after

pub returns-clause-refused : goal.returns-clause-refused
returns-clause-refused c = knows_still

pub returns-clause-halves : goal.returns-clause-halves
returns-clause-halves c v k knows = (knows, knows)

pub returns-clause-joined : goal.returns-clause-joined
returns-clause-joined c = knows_joined
