use Rattle.hc_traces.proofs.StartedRuns.{run_once}
use Rattle.hc_traces.proofs.laws.runs_are_single.Goals as goal

pub returns : goal.returns
returns c t whole free steps rows others a b = run_once c.same_trees_have_partners.ensures t whole free steps rows others a b
