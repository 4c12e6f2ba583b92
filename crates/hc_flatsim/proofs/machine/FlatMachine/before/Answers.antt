use Rattle.std.proofs.Common.{◌≡◌, subst}
use Rattle.std.specs.Prelude.{slice_get, slice_index, Some}
use Rattle.hc_signal.specs.declared.signal.Port.{Port}
use Rattle.hc_flatsim.specs.Machine.{Machine, numbers}
use Rattle.hc_flatsim.proofs.Ports.{output_is}
use Rattle.hc_flatsim.proofs.machine.FlatMachine.before.Goals as goal

pub returns : goal.returns
returns c =
    subst (λ (m : Machine). (p : Port) → slice_get m.graph.ports.outputs c.args.port ≡ Some p
    → c.index-outputs-port.result ≡ record { width = p.width; value = slice_index (numbers m.before) c.args.port }) c.self.view_is
    (λ p at. output_is c.self.inside.before.items c.self.inside.circuit.now.ports.outputs c.as_slice-outputs.result.now c.args.port c.index-outputs-port.result p
    c.self.invariant.before c.as_slice-outputs.ensures.value c.index-outputs-port.is at)
