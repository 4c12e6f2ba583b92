use Rattle.std.proofs.Common.{take}
use Rattle.hc_turn.specs.Passes.{known}
use Rattle.hc_db.specs.Database.{lock_of}
use Rattle.hc_plan.specs.Stepping.{outs_of}
use Rattle.hc_workers.specs.Working.{AreFinishedAt, ComesBack}
use Rattle.hc_workers.proofs.finish.finish_each.Given as goal

abbrev pub invariant-places : goal.invariant-places
invariant-places g l = ComesBack (lock_of l.db) l.fn.pass l.pass × AreFinishedAt (known l.fn.pass) (known l.pass) l.rows (outs_of l.outs) (take l.place-index l.places) (outs_of l.list.items)
