-- What a clause says of a database.
use Rattle.hc_turn.specs.declared.lock.TurnLock.{TurnLock}
use Rattle.hc_dbstate.specs.declared.turns.Entered.{Entered}
use Rattle.hc_db.specs.declared.kept.Kept.{Kept}
use Rattle.hc_db.specs.declared.db.Db.{Db}

-- the lock of its passes
abbrev pub lock_of : Db → TurnLock Kept Entered
lock_of db = db.lock
