use Rattle.hc_modules.proofs.Existing.{text_exists}
use Rattle.hc_modules.proofs.exist_laws.hierarchies_have_texts.Goals as goal

pub returns : goal.returns
returns c = text_exists c.same_is_an_equivalence.ensures.reflexive c.calls_can_be_named.ensures c.modules_have_texts.ensures.tree
