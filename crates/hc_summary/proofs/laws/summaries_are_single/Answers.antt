use Rattle.hc_summary.proofs.OneSummary.{summary_single}
use Rattle.hc_summary.proofs.laws.summaries_are_single.Goals as goal

pub returns : goal.returns
returns c = summary_single
