use Rattle.std.proofs.Common.{rules}
use Rattle.hc_statements.proofs.PortTables.{none_yet}
use Rattle.hc_statements.proofs.port_places.places_of.Goals as goal

pub ports-init : goal.ports-init
ports-init c = none_yet c.new-places.result.entries c.args.ports.now (search rules)
