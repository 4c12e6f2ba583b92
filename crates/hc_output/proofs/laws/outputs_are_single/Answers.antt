use Rattle.hc_output.proofs.Outputs.{output_once}
use Rattle.hc_output.proofs.laws.outputs_are_single.Goals as goal

pub returns : goal.returns
returns c = output_once c.texts_are_single.ensures c.flat_texts_are_single.ensures c.summaries_are_single.ensures
