use Rattle.hc_tokens.proofs.NumbersFound.{number-read, one_number}
use Rattle.hc_tokens.proofs.NumbersSound.{number-spelled}
use Rattle.hc_tokens.proofs.laws.numbers_are_read.Goals as goal

pub returns-clause-read : goal.returns-clause-read
returns-clause-read c = number-read

pub returns-clause-spelled : goal.returns-clause-spelled
returns-clause-spelled c = number-spelled

pub returns-clause-one : goal.returns-clause-one
returns-clause-one c = one_number
