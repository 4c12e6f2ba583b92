use Rattle.hc_flatsim.proofs.Knowing.{runs_cycle}
use Rattle.hc_flatsim.proofs.machine.FlatMachine.cycle.Goals as goal

pub returns : goal.returns
returns g c =
    runs_cycle c.args.self.now c.settle.new.self c.note_before.new.self c.edge.new.self c.settle-2.new.self c.note_after.new.self
    c.settle.ensures.same c.settle.ensures.settled c.note_before.ensures c.edge.ensures c.settle-2.ensures.same c.settle-2.ensures.settled c.note_after.ensures
