use Rattle.hc_workload.proofs.Pieces.{next_is}
use Rattle.hc_workload.proofs.draft.next_state.Goals as goal

pub returns : goal.returns
returns c = next_is c.args.state
