use Rattle.hc_verilog.proofs.Texts.{clocked_text, written_three}
use Rattle.hc_verilog.proofs.memories.push_block.Goals as goal

pub returns : goal.returns
returns c = written_three c.push-2.result _ _ _ _ _ _ _ _ (clocked_text _) c.in_ok-push.ensures c.in_ok-push_writes.ensures c.push-2.ensures
