use Rattle.hc_unfold.proofs.FormLaws.{formed_is_lawful}
use Rattle.hc_unfold.proofs.form_laws.formed_graphs_are_lawful.Goals as goal

pub returns : goal.returns
returns c = formed_is_lawful
