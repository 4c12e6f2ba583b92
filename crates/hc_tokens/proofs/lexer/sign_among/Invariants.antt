use Rattle.std.proofs.Common.{◌≡◌, map, drop}
use Rattle.hc_tokens.specs.SignTable as table
use Rattle.hc_tokens.proofs.lexer.sign_among.Given as goal

abbrev pub invariant-sign : goal.invariant-sign
invariant-sign l = table.front_among l.bytes (map (λ s. (s.0.now, table.token_of s.1)) l.list) ≡ table.front_among l.bytes (map (λ s. (s.0.now, table.token_of s.1)) (drop l.written-index l.list))
