use Rattle.hc_db.proofs.Known.{are_there}
use Rattle.hc_db.proofs.laws.known_entries_are_there.Goals as goal

pub returns : goal.returns
returns c v h id found = are_there v h id (λ e. c.logs_name_entries.ensures.forms h e found.legal) found
