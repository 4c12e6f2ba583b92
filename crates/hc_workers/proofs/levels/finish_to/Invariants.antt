use Rattle.hc_turn.specs.Passes.{known}
use Rattle.hc_db.specs.Database.{lock_of}
use Rattle.hc_plan.specs.Stepping.{outs_of}
use Rattle.hc_workers.specs.Levels.{AreFinishedTo}
use Rattle.hc_workers.specs.Working.{ComesBack}
use Rattle.hc_workers.proofs.levels.finish_to.Given as goal

abbrev pub invariant-below : goal.invariant-below
invariant-below g l = ComesBack (lock_of l.db) l.fn.pass l.pass × AreFinishedTo (known l.fn.pass) (known l.pass) l.rows (outs_of l.outs.items) l.below
