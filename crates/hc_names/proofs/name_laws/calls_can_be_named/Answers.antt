use Rattle.std.proofs.Common.{[], arith}
use Rattle.hc_names.proofs.Existing.{named_calls}
use Rattle.hc_names.proofs.name_laws.calls_can_be_named.Goals as goal

pub returns : goal.returns
returns c calls few none = named_calls calls [] (omega (arith, few)) (λ x. none x.0 x.1)
