use Rattle.std.proofs.Common.{◌≡◌, map, length, string_bytes}
use Rattle.hc_words.specs.Form.{nothing_seen, passes}
use Rattle.hc_words.proofs.form.has_form.Given as goal

abbrev pub invariant-loop-word : goal.invariant-loop-word
invariant-loop-word l = passes l.seen (map string_bytes l.rest) ≡ passes nothing_seen (map string_bytes l.fn.words)

abbrev pub decreases-loop-word : goal.decreases-loop-word
decreases-loop-word l = length l.rest
