use Rattle.std.proofs.Common.{◌≡◌, ◌+◌, ◌≤◌, length}
use Rattle.hc_tokens.specs.Tokens.{lines}
use Rattle.hc_lang.specs.RowReading.{rows_from, with_rows}
use Rattle.hc_lang.proofs.row.rows.Given as goal

-- the rows so far, put before those of the rest, are those of all
abbrev pub invariant-line : goal.invariant-line
invariant-line l = (l.number + length l.rest ≤ length l.text + 1) × (with_rows l.rows (rows_from l.depth l.number (lines l.rest)) ≡ rows_from l.depth 1 (lines l.text))

abbrev pub decreases-line : goal.decreases-line
decreases-line l = length l.rest
