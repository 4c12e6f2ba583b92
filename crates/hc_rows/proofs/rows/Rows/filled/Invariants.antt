use Rattle.std.proofs.Common.{◌≡◌, take, map, replicate}
use Rattle.hc_rows.proofs.rows.Rows.filled.Given as goal

abbrev pub invariant-lengths : goal.invariant-lengths
invariant-lengths g l = l.rows ≡ map (λ n. replicate n l.x) (take l.length-index l.lengths)
