use Rattle.hc_dbstate.proofs.Whole.{top_good, call_good}
use Rattle.hc_dbstate.proofs.elaborations.elaborations_unfold_whole.Goals as goal

pub returns-clause-top : goal.returns-clause-top
returns-clause-top c h hier legal over = top_good h legal hier over

pub returns-clause-calls : goal.returns-clause-calls
returns-clause-calls c h hier call legal over has = call_good h legal hier over call has
