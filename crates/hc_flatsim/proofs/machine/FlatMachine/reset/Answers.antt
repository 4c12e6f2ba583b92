use Rattle.hc_flatsim.proofs.Ports.{reset_is}
use Rattle.hc_flatsim.proofs.machine.FlatMachine.reset.Goals as goal

pub returns : goal.returns
returns c = reset_is c.args.self.now c.restart.new.self c.machine.ensures c.restart.ensures
