use Rattle.hc_edges.proofs.Edged.{rest_settles}
use Rattle.hc_edges.proofs.laws.settling_keeps_rest.Goals as goal

pub returns : goal.returns
returns c = λ clocked contents old new advances rest. rest_settles clocked contents old new advances rest
