use Rattle.std.proofs.Common.{◌≡◌, drop}
use Rattle.hc_tokens.specs.Tokens as spec
use Rattle.hc_tokens.proofs.lexer.number_of.Given as goal

abbrev pub invariant-digit : goal.invariant-digit
invariant-digit l = spec.number_of l.base l.digits ≡ spec.number_from l.base l.value (drop l.digit-index l.digits)
