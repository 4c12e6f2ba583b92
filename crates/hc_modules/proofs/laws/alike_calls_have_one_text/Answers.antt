use Rattle.hc_modules.proofs.Alike.{alike_text}
use Rattle.hc_modules.proofs.laws.alike_calls_have_one_text.Goals as goal

pub returns : goal.returns
returns c = alike_text
