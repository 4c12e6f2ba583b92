use Rattle.hc_flatsim.proofs.Shapes.{item_has}
use Rattle.hc_flatsim.proofs.make.zeros_of_ports.Goals as goal

pub zero-requires : goal.zero-requires
zero-requires c = c.requires c.port-item.result (item_has c.args.ports.now c.ports.port-index c.port-item.result c.ports-test.true c.port-item.is)
