use Rattle.hc_traces.proofs.TwinTraces.{runs_of_same}
use Rattle.hc_traces.proofs.laws.same_trees_run_alike.Goals as goal

pub returns : goal.returns
returns c s t e whole other free state su os ot inputs count steps rows x = runs_of_same c.same_trees_have_partners.ensures s t e whole other free
    (λ x. free ((c.same_trees_are_alike.ensures.loops s t e).1 x)) state su os ot inputs count steps rows x
