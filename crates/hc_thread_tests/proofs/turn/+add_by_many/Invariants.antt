use Rattle.std.proofs.Common.{◌-◌}
use Rattle.hc_thread_tests.proofs.turn.+add_by_many.Given as goal

abbrev pub decreases-add_by_many : goal.decreases-add_by_many
decreases-add_by_many g l = l.to - l.from
