use Rattle.std.proofs.Common.{◌≡◌, map, drop}
use Rattle.std.specs.List.{list_any}
use Rattle.hc_tokens.specs.Tokens.{same_bytes}
use Rattle.hc_tokens.proofs.numbers.is_among.Given as goal

abbrev pub invariant-loop-known : goal.invariant-loop-known
invariant-loop-known l = list_any (same_bytes l.word) (map (λ w. w.now) l.list) ≡ list_any (same_bytes l.word) (map (λ w. w.now) (drop l.known-index l.list))
