use Rattle.hc_lang.specs.Words.{reserved}
use Rattle.hc_lang.proofs.reserved.is_reserved.Goals as goal

pub returns : goal.returns
unfolding reserved
returns c = c.is_among.ensures
