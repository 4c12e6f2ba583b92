use Rattle.hc_dbstate.specs.Elaboration.{walk}
use Rattle.hc_plan.proofs.Called.{call_of_view, view_of_call}
use Rattle.hc_plan.proofs.called_laws.calls_stand_for_calls.Goals as goal

pub returns-clause-elaborated : goal.returns-clause-elaborated
returns-clause-elaborated c entries hier e view for has = call_of_view entries (walk hier) e.calls for.calls view has

pub returns-clause-walked : goal.returns-clause-walked
returns-clause-walked c entries hier e call for has = view_of_call entries (walk hier) e.calls for.calls call has
