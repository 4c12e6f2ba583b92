use Rattle.std.proofs.Common.{◌≡◌, length}
use Rattle.std.specs.List.{list_all}
use Rattle.std.specs.Char.{is_ascii_digit}
use Rattle.hc_words.proofs.form.is_decimal.Given as goal

abbrev pub invariant-loop-first : goal.invariant-loop-first
invariant-loop-first l = list_all is_ascii_digit l.rest ≡ list_all is_ascii_digit l.fn.text

abbrev pub decreases-loop-first : goal.decreases-loop-first
decreases-loop-first l = length l.rest
