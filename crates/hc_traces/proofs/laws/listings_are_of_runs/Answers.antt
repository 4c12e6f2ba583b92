use Rattle.hc_traces.proofs.StartedRuns.{listing_of_run}
use Rattle.hc_traces.proofs.laws.listings_are_of_runs.Goals as goal

pub returns : goal.returns
returns c outputs sim steps rows old new is begun run listed = listing_of_run c.same_trees_have_partners.ensures outputs sim steps rows old new is begun run listed
