use Rattle.hc_verilog.proofs.Existing.{circuit_text, tree_text}
use Rattle.hc_verilog.proofs.text_laws.modules_have_texts.Goals as goal

pub returns-clause-circuit : goal.returns-clause-circuit
returns-clause-circuit c = circuit_text c.names_can_be_taken.ensures.graph

pub returns-clause-tree : goal.returns-clause-tree
returns-clause-tree c = tree_text c.names_can_be_taken.ensures.graph c.canonical_forms_exist.ensures
