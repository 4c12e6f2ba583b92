use Rattle.hc_summary.proofs.Existing.{some_summary}
use Rattle.hc_summary.proofs.exist_laws.summaries_exist.Goals as goal

pub returns : goal.returns
returns c d e rows x =
    let same = c.same_is_an_equivalence.ensures in
    some_summary same.reflexive same.symmetric e rows (c.reached_trees_are_called.ensures d e x)
