use Rattle.std.proofs.Common.{◌≡◌, ◌≤◌, length}
use Rattle.hc_tokens.specs.Tokens as t
use Rattle.hc_tokens.specs.SignTable.{with_front}
use Rattle.hc_tokens.proofs.lexer.tokens.Given as goal

abbrev pub invariant-cut : goal.invariant-cut
invariant-cut l = (length l.rest ≤ length l.line) × (with_front l.tokens (t.tokens l.rest) ≡ t.tokens l.line)

abbrev pub decreases-cut : goal.decreases-cut
decreases-cut l = length l.rest
