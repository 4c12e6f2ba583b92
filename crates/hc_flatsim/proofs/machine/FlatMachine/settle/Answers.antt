use Rattle.hc_flatsim.proofs.Knowing.{computed_settled, noted_settled}
use Rattle.hc_flatsim.proofs.machine.FlatMachine.settle.Goals as goal

pub know-requires : goal.know-requires
know-requires g c = computed_settled c.args.self.now c.compute.new.self c.machine.ensures c.compute.ensures

pub returns-in-Nothing-clause-settled : goal.returns-in-Nothing-clause-settled
returns-in-Nothing-clause-settled g c = noted_settled c.args.self.now c.compute.new.self c.know.new.self c.machine.ensures c.compute.ensures c.know.ensures
