use Rattle.hc_traces.proofs.Begun.{front_of_listing}
use Rattle.hc_traces.proofs.laws.parts_of_listings_are_fronts.Goals as goal

pub returns : goal.returns
returns c outputs sim steps rows old new is all listed = front_of_listing outputs sim steps rows old new is all listed
