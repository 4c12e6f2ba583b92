use Rattle.std.proofs.Common.{◌≡◌, map, drop, []}
use Rattle.hc_lang.specs.Reads.{first_repeated}
use Rattle.hc_lang.proofs.names.first_repeated.Given as goal

-- the rows that are left, against the names seen, decide
abbrev pub invariant-row : goal.invariant-row
invariant-row l = first_repeated (map (λ w. w.now) l.seen.keys) (drop l.number-index l.rows) ≡ first_repeated [] l.rows
