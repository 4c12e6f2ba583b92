use Rattle.std.proofs.Common.{◌-◌}
use Rattle.hc_thread_tests.proofs.db.+insert_by_many.Given as goal

abbrev pub decreases-insert_by_many : goal.decreases-insert_by_many
decreases-insert_by_many g l = l.to - l.from
