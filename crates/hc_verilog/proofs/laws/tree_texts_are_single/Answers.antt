use Rattle.hc_verilog.proofs.Single.{tree_text_single}
use Rattle.hc_verilog.proofs.laws.tree_texts_are_single.Goals as goal

pub returns : goal.returns
returns c = tree_text_single
