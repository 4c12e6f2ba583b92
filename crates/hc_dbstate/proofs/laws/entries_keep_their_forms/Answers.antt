use Rattle.hc_dbstate.proofs.Kept.{form_grown, form_inserted}
use Rattle.hc_dbstate.proofs.laws.entries_keep_their_forms.Goals as goal

pub returns-clause-inserted : goal.returns-clause-inserted
returns-clause-inserted c = form_inserted

pub returns-clause-grown : goal.returns-clause-grown
returns-clause-grown c = form_grown
