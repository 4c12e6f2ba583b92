use Rattle.hc_layout.proofs.Placed.{behind, step, within}
use Rattle.hc_layout.proofs.laws.kids_stand_behind.Goals as goal

pub returns-clause-within : goal.returns-clause-within
returns-clause-within c forms top l path p lay e = within forms top l lay path p e

pub returns-clause-behind : goal.returns-clause-behind
returns-clause-behind c forms top l path p i q lay e f = behind forms top l lay path p i q e f

pub returns-clause-beside : goal.returns-clause-beside
returns-clause-beside c forms top l path p i begin id kid lay e a b k = (step forms top l lay path p i begin id kid e a b k, lay.laid.own p i begin id kid a b k)
