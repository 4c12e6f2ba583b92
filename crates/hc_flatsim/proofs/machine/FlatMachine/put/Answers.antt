use Rattle.std.proofs.Common.{subst, sym}
use Rattle.hc_bench.specs.Steps.{IsPortValue}
use Rattle.hc_flatsim.specs.Machine.{Machine}
use Rattle.hc_flatsim.proofs.machine.FlatMachine.put.Goals as goal

pub set_input-requires-clause-value : goal.set_input-requires-clause-value
set_input-requires-clause-value c = subst (λ (m : Machine). IsPortValue m.graph.ports.inputs c.args.port c.args.value) (sym c.self.view_is) c.requires
