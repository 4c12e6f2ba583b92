use Rattle.hc_settling.proofs.Tops.{settling_settles}
use Rattle.hc_settling.proofs.walking.settlings_settle.Goals as goal

pub returns : goal.returns
returns c = λ t plans tables state inputs v whole are told settled old new s marked keep tops. settling_settles t plans tables whole are told state inputs v settled old new s marked keep tops
