use Rattle.hc_lang.proofs.TextLaws.{one_design, one_fault, one_of_two, not_both}
use Rattle.hc_lang.proofs.laws.texts_have_one_answer.Goals as goal

pub returns-clause-design : goal.returns-clause-design
returns-clause-design c = one_design

pub returns-clause-fault : goal.returns-clause-fault
returns-clause-fault c = one_fault

pub returns-clause-some : goal.returns-clause-some
returns-clause-some c = one_of_two

pub returns-clause-one : goal.returns-clause-one
returns-clause-one c = not_both
