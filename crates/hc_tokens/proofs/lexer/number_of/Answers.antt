use Rattle.hc_tokens.proofs.Digits.{past_at}
use Rattle.hc_tokens.proofs.lexer.number_of.Goals as goal

pub returns-in-None : goal.returns-in-None
returns-in-None c = past_at _ _ _ _ c.requires c.digit-test.true c.digit.invariant c.in-None.ensures
