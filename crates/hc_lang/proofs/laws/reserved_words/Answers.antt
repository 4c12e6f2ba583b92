use Rattle.std.proofs.Common.{refl}
use Rattle.hc_lang.specs.Words.{reserved}
use Rattle.hc_lang.proofs.laws.reserved_words.Goals as goal

pub returns-clause-keyword : goal.returns-clause-keyword
unfolding reserved
returns-clause-keyword c = refl
