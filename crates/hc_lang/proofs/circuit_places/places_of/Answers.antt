use Rattle.std.proofs.Common.{rules}
use Rattle.hc_lang.proofs.CircuitTables.{none_yet}
use Rattle.hc_lang.proofs.circuit_places.places_of.Goals as goal

pub circuits-init : goal.circuits-init
circuits-init c = none_yet c.new-places.result.entries c.args.circuits.now (search rules)
