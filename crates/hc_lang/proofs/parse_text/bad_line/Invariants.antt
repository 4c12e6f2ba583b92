use Rattle.std.proofs.Common.{◌≡◌, ◌≤◌, ◌+◌, drop}
use Rattle.hc_lang.specs.TextReading.{bad_line}
use Rattle.hc_lang.proofs.parse_text.bad_line.Given as goal

-- the bytes that are left decide; no line is counted without a byte
abbrev pub invariant-byte : goal.invariant-byte
invariant-byte l = (l.line ≤ l.byte-index + 1) × (bad_line l.line (drop l.byte-index l.text) ≡ bad_line 1 l.text)
