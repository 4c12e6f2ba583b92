use Rattle.hc_workload.specs.Generator.{next_state}
use Rattle.hc_workload.proofs.Pieces.{number_is}
use Rattle.hc_workload.proofs.draft.Draft.draw.Goals as goal

pub returns-clause-number : goal.returns-clause-number
returns-clause-number c = number_is c.args.limit c.next_state-self.result (next_state c.args.self.now.state) c.next_state-self.ensures
