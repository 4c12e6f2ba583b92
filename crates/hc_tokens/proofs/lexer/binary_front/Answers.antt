use Rattle.std.proofs.Common.{refl, sym, ◌∙◌, arith}
use Rattle.hc_tokens.specs.Tokens as t
use Rattle.hc_tokens.proofs.Digits.{is_few, binary_small}
use Rattle.hc_tokens.proofs.lexer.binary_front.Goals as goal

pub returns-in-None : goal.returns-in-None
returns-in-None c = absurd (is_few t.is_binary_digit 2 128 _ binary_small (omega arith) refl _ _ c.binary_len-len.ensures.value c.split_at.ensures.front _ _ (sym c.is_literal.ensures ∙ c.if-not-is_literal.false) c.in-None.ensures)
