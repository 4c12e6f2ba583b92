use Rattle.std.proofs.Common.{drop}
use Rattle.hc_lang.proofs.CircuitTables.{ArePlacesBefore}
use Rattle.hc_lang.proofs.circuit_places.places_of.Given as goal

-- the places so far and those of the circuits that are left are all
abbrev pub invariant-circuits : goal.invariant-circuits
invariant-circuits l = ArePlacesBefore l.places.entries l.at (drop l.at l.circuits) l.circuits
