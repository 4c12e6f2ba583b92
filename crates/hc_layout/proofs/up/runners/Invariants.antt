use Rattle.std.proofs.Common.{length}
use Rattle.hc_layout.specs.Up.{AreRunners}
use Rattle.hc_layout.proofs.RunnerRows.{IsNext}
use Rattle.hc_layout.proofs.up.runners.Given as goal

abbrev pub invariant-instances : goal.invariant-instances
invariant-instances l = AreRunners l.db.entries l.plans l.layout l.up × IsNext l.layout l.p (length l.up)
