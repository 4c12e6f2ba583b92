use Rattle.hc_flatsim.proofs.Cycles.{is_simulation}
use Rattle.hc_flatsim.proofs.machine.FlatMachine.lawful.Goals as goal

pub returns : goal.returns
returns c = is_simulation c.args.self.now c.machine.ensures
