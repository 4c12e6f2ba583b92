use Rattle.hc_flatten.proofs.Existing.{flat_exists, flat_lawful}
use Rattle.hc_flatten.proofs.flat_laws.flat_graphs_exist.Goals as goal

pub returns-clause-flat : goal.returns-clause-flat
returns-clause-flat c = flat_exists

pub returns-clause-lawful : goal.returns-clause-lawful
returns-clause-lawful c = flat_lawful
