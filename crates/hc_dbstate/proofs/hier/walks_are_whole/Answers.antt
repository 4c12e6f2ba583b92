use Rattle.hc_dbstate.proofs.Walks.{ends_itself, has_kids}
use Rattle.hc_dbstate.proofs.hier.walks_are_whole.Goals as goal

pub returns-clause-own : goal.returns-clause-own
returns-clause-own c = ends_itself

pub returns-clause-kids : goal.returns-clause-kids
returns-clause-kids c = has_kids
