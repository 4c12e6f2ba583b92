use Rattle.hc_check.proofs.Verdicts.{verdict_passes, verdict_tells}
use Rattle.hc_check.proofs.rules.check.Goals as goal

pub returns-clause-passes : goal.returns-clause-passes
returns-clause-passes c = verdict_passes _ _ c.try_rules.ensures

pub returns-clause-tells : goal.returns-clause-tells
returns-clause-tells c = verdict_tells _ _ c.try_rules.ensures
