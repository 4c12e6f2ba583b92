use Rattle.hc_canon.proofs.Decided.{canonical_single}
use Rattle.hc_canon.proofs.laws.canonical_forms_are_single.Goals as goal

pub returns : goal.returns
returns c = canonical_single
