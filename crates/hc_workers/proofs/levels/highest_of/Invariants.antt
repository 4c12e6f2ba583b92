use Rattle.std.proofs.Common.{take}
use Rattle.hc_workers.specs.Levels.{IsHighest}
use Rattle.hc_workers.proofs.levels.highest_of.Given as goal

abbrev pub invariant-rows : goal.invariant-rows
invariant-rows l = IsHighest (take l.row-index l.rows) l.highest
