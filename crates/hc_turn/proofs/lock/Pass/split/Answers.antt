use Rattle.hc_turn.proofs.Steps.{splits}
use Rattle.hc_turn.proofs.lock.Pass.split.Goals as goal

pub another-other-requires-clause-rule : goal.another-other-requires-clause-rule
another-other-requires-clause-rule g c = splits g.S.Logged.log _ _ c.requires.share c.requires.free
