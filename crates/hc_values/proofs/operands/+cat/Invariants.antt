use Rattle.std.proofs.Common.{length}
use Rattle.hc_values.proofs.operands.+cat.Given as goal

abbrev pub decreases-cat : goal.decreases-cat
decreases-cat l = length l.parts.now
