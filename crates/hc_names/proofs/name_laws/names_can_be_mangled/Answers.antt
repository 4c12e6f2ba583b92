use Rattle.hc_names.proofs.Existing.{mangled}
use Rattle.hc_names.proofs.name_laws.names_can_be_mangled.Goals as goal

pub returns : goal.returns
returns c = mangled
