use Rattle.hc_dbstate.proofs.Denoted.{same_from_forms, forms_from_same}
use Rattle.hc_dbstate.proofs.laws.made_forms_tell_trees_apart.Goals as goal

pub returns : goal.returns
returns c h f g ids others s t a b legal ds dt ca cb = (same_from_forms h legal f g ids others s t a b ds dt ca cb, forms_from_same h legal f g ids others s t a b ds dt ca cb)
