use Rattle.hc_dbstate.proofs.Named.{entry_named}
use Rattle.hc_dbstate.proofs.laws.entries_are_named.Goals as goal

pub returns : goal.returns
returns c h id legal b = entry_named h legal id.0 b
