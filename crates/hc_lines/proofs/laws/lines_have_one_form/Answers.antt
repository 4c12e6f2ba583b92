use Rattle.hc_lines.proofs.Lines.{form_read, form_spelled, one_line}
use Rattle.hc_lines.proofs.laws.lines_have_one_form.Goals as goal

pub returns-clause-read : goal.returns-clause-read
returns-clause-read c = λ ts l d h e. form_read h d e

pub returns-clause-spelled : goal.returns-clause-spelled
returns-clause-spelled c = form_spelled

pub returns-clause-one : goal.returns-clause-one
returns-clause-one c = one_line
