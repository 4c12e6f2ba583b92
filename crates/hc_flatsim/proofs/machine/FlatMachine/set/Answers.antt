use Rattle.std.proofs.Common.{◌≡◌}
use Rattle.std.specs.Prelude.{slice_set}
use Rattle.hc_flatsim.proofs.Ports.{set_is, set_same}
use Rattle.hc_flatsim.proofs.machine.FlatMachine.set.Goals as goal

pub returns-then-not-holds : goal.returns-then-not-holds
returns-then-not-holds c = set_is c.args.self.now c.put.new.self c.args.port c.args.value c.put.ensures

pub returns-else-not-holds : goal.returns-else-not-holds
returns-else-not-holds c =
    let same : slice_set c.args.self.now.inputs c.args.port c.args.value ≡ c.args.self.now.inputs = c.holds.ensures c.if-not-holds.false in
    set_same c.args.self.now c.args.port c.args.value same
