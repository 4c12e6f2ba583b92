use Rattle.hc_canon.proofs.Exists.{canonical_some}
use Rattle.hc_canon.proofs.laws.canonical_forms_exist.Goals as goal

pub returns : goal.returns
returns c = canonical_some
