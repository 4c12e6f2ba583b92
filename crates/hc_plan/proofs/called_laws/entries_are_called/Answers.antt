use Rattle.hc_plan.proofs.Called.{called}
use Rattle.hc_plan.proofs.called_laws.entries_are_called.Goals as goal

pub returns : goal.returns
returns c = called c.entries_are_named.ensures c.trees_have_one_entry.ensures
