use Rattle.hc_layout.proofs.RunnerRows.{leads_up}
use Rattle.hc_layout.proofs.laws.runs_lead_up.Goals as goal

pub returns : goal.returns
returns c forms plans l up path p i q a b id plan is e f here found h k r = leads_up forms plans l up path p i q a b id plan is e f here found h k r
