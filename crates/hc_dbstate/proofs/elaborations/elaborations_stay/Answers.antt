use Rattle.hc_dbstate.proofs.Stays.{call_grows, elaboration_grows}
use Rattle.hc_dbstate.proofs.elaborations.elaborations_stay.Goals as goal

pub returns-clause-calls : goal.returns-clause-calls
returns-clause-calls c h g rest call a b grown o = call_grows h g rest a b grown call o

pub returns-clause-hierarchies : goal.returns-clause-hierarchies
returns-clause-hierarchies c h g rest hier a b grown e = elaboration_grows h g rest a b grown hier e
