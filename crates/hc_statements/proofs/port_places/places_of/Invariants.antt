use Rattle.std.proofs.Common.{drop}
use Rattle.hc_statements.proofs.PortTables.{ArePlacesBefore}
use Rattle.hc_statements.proofs.port_places.places_of.Given as goal

-- the places so far and those of the ports that are left are all
abbrev pub invariant-ports : goal.invariant-ports
invariant-ports l = ArePlacesBefore l.places.entries l.at (drop l.at l.ports) l.ports
