use Rattle.std.proofs.Common.{refl}
use Rattle.hc_tokens.specs.Words.{call_words}
use Rattle.hc_tokens.proofs.laws.tokens_of_a_line.Goals as goal

pub returns-clause-name : goal.returns-clause-name
unfolding call_words
returns-clause-name c = refl

pub returns-clause-call : goal.returns-clause-call
unfolding call_words
returns-clause-call c = refl
