use Rattle.hc_turn.proofs.Steps.{leaves, empty}
use Rattle.hc_turn.proofs.lock.TurnLock.give.Goals as goal

pub push_as-requires-clause-rule : goal.push_as-requires-clause-rule
push_as-requires-clause-rule g c = (leaves g.S.Logged.log _ _ _ _ c.args.pass.now.live c.requires.turn c.requires.log, empty g.S.Logged.log _ _)
