use Rattle.hc_flattext.proofs.FlatTexts.{flat_text_single}
use Rattle.hc_flattext.proofs.laws.flat_texts_are_single.Goals as goal

pub returns : goal.returns
returns c = flat_text_single
