use Rattle.std.proofs.Common.{◌≡◌, drop}
use Rattle.hc_lang.specs.Reads.{first_reserved}
use Rattle.hc_lang.proofs.names.first_reserved.Given as goal

-- the rows that are left decide
abbrev pub invariant-row : goal.invariant-row
invariant-row l = first_reserved (drop l.number-index l.rows) ≡ first_reserved l.rows
