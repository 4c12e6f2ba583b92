use Rattle.hc_modules.proofs.OneText.{text_single}
use Rattle.hc_modules.proofs.laws.texts_are_single.Goals as goal

pub returns : goal.returns
returns c = text_single
