-- What a clause says of a pass.
use Rattle.std.specs.Prelude.{◌≡◌, ℕ, IsTrue, false, List}
use Rattle.crossbeam_queue.specs.Passes.{view, IsPassOf}
use Rattle.hc_turn.specs.declared.logged.Logged.{Ghosts}
use Rattle.hc_turn.specs.declared.lock.Pass.{Pass}
use Rattle.hc_turn.specs.declared.lock.TurnLock.{TurnLock}
use Rattle.hc_turn.specs.declared.view.View.{View}

module _ {S I : Type 0} {G : Ghosts S I} where
  -- what the pass knows
  abbrev pub known : Pass S I G → View I
  known p = view p.place

  -- what it has seen of the log
  abbrev pub seen : Pass S I G → List I
  seen p = (known p).seen

  -- the places of the log that are its own
  abbrev pub mine : Pass S I G → List ℕ
  mine p = (known p).mine

  -- its share of the 64 that all passes of a lock have
  abbrev pub share : Pass S I G → ℕ
  share p = (known p).share

  -- the lists that it keeps from joins
  abbrev pub kept : Pass S I G → List (List I)
  kept p = (known p).kept

  -- it has the turn
  abbrev pub HoldsTurn : Pass S I G → Type 0
  HoldsTurn p = IsTrue (known p).holds

  -- it holds nothing
  abbrev pub HoldsNothing : Pass S I G → Type 0
  HoldsNothing p = (known p).holds ≡ false

  -- it is of this lock
  abbrev pub IsOf : TurnLock S I → Pass S I G → Type 0
  IsOf lock p = IsPassOf lock.queue p.place
