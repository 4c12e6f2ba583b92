use Rattle.hc_dbstate.proofs.Unfolded.{unfolds, unfolding_stays}
use Rattle.hc_dbstate.proofs.laws.unfoldings_are_of_kids.Goals as goal

pub returns-clause-kids : goal.returns-clause-kids
returns-clause-kids c h id form legal e = unfolds h legal id form e

pub returns-clause-stays : goal.returns-clause-stays
returns-clause-stays c h id more legal b = unfolding_stays h legal id more b
