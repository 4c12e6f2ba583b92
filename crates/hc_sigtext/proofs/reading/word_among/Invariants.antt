use Rattle.std.proofs.Common.{◌≡◌, drop}
use Rattle.hc_sigtext.specs.SigReading as r
use Rattle.hc_sigtext.proofs.reading.word_among.Given as goal

abbrev pub invariant-word : goal.invariant-word
invariant-word l = r.word_among l.bytes l.list ≡ r.word_among l.bytes (drop l.word-index l.list)
