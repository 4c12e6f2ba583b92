use Rattle.hc_tokens.specs.Words.{call_words}
use Rattle.hc_tokens.proofs.numbers.is_call_word.Goals as goal

pub returns : goal.returns
unfolding call_words
returns c = c.is_among.ensures
