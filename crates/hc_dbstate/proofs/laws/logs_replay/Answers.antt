use Rattle.hc_dbstate.proofs.Replayed.{replays}
use Rattle.hc_dbstate.proofs.laws.logs_replay.Goals as goal

pub returns : goal.returns
returns c = replays
