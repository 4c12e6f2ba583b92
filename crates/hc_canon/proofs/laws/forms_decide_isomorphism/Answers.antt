use Rattle.hc_canon.proofs.Decided.{forms_from_isomorphic, isomorphic_from_forms}
use Rattle.hc_canon.proofs.laws.forms_decide_isomorphism.Goals as goal

pub returns : goal.returns
returns c = λ g h ids others a b ca cb. (isomorphic_from_forms g h ids others a b ca cb, forms_from_isomorphic g h ids others a b ca cb)
