use Rattle.std.proofs.Common.{◌≡◌, drop}
use Rattle.hc_lines.specs.LineReading as r
use Rattle.hc_lines.proofs.line.keyword_among.Given as goal

abbrev pub invariant-word : goal.invariant-word
invariant-word l = r.keyword_among l.bytes l.list ≡ r.keyword_among l.bytes (drop l.word-index l.list)
