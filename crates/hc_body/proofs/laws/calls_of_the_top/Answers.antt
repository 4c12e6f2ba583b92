use Rattle.hc_body.proofs.TopCalls.{top_is_call}
use Rattle.hc_body.proofs.laws.calls_of_the_top.Goals as goal

pub returns : goal.returns
returns c = top_is_call
