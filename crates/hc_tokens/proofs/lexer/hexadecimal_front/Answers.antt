use Rattle.std.proofs.Common.{refl, sym, ◌∙◌, arith}
use Rattle.std.specs.Char.{is_ascii_hexdigit}
use Rattle.hc_tokens.proofs.Digits.{is_few, hexadecimal_small}
use Rattle.hc_tokens.proofs.lexer.hexadecimal_front.Goals as goal

pub returns-in-None : goal.returns-in-None
returns-in-None c = absurd (is_few is_ascii_hexdigit 16 32 _ hexadecimal_small (omega arith) refl _ _ c.hexadecimal_len-len.ensures.value c.split_at.ensures.front _ _ (sym c.is_literal.ensures ∙ c.if-not-is_literal.false) c.in-None.ensures)
