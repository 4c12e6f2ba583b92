use Rattle.hc_check.proofs.Verdicts.{some_verdict, one_broken, not_both}
use Rattle.hc_check.proofs.laws.one_verdict.Goals as goal

pub returns-clause-some : goal.returns-clause-some
returns-clause-some c = some_verdict

pub returns-clause-one : goal.returns-clause-one
returns-clause-one c = one_broken

pub returns-clause-not_both : goal.returns-clause-not_both
returns-clause-not_both c = not_both
