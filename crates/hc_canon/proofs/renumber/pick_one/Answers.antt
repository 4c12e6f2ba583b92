use Rattle.hc_canon.proofs.Picks.{picked_none}
use Rattle.hc_canon.proofs.renumber.pick_one.Goals as goal

pub returns-in-None : goal.returns-in-None
returns-in-None g c = picked_none _ _ _ _ c.in-None.ensures.lookup.3
