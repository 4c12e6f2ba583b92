use Rattle.hc_dbstate.proofs.OwnCall.{call_over, made_denotes}
use Rattle.hc_dbstate.proofs.elaborations.made_calls_are_lawful.Goals as goal

pub returns-clause-denotes : goal.returns-clause-denotes
returns-clause-denotes c = made_denotes

pub returns-clause-lawful : goal.returns-clause-lawful
returns-clause-lawful c h circuit trees call legal lawful m = call_over h legal circuit lawful trees call m
