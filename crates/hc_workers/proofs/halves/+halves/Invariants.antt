use Rattle.std.proofs.Common.{◌+◌, ◌*◌, length, max}
use Rattle.hc_workers.proofs.halves.+halves.Given as goal

abbrev pub decreases-finish_many : goal.decreases-finish_many
decreases-finish_many g l = 4 * length l.places.now

abbrev pub decreases-finish_half : goal.decreases-finish_half
decreases-finish_half g l = 4 * length l.places.now + 1

abbrev pub decreases-finish_halves-front : goal.decreases-finish_halves-front
decreases-finish_halves-front g l = 4 * length l.low.now + 2

abbrev pub decreases-finish_halves-back : goal.decreases-finish_halves-back
decreases-finish_halves-back g l = 4 * length l.high.now + 2

abbrev pub decreases-finish_halves : goal.decreases-finish_halves
decreases-finish_halves g l = 4 * max (length l.low.now) (length l.high.now) + 3
