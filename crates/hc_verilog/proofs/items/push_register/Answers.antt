use Rattle.hc_verilog.proofs.Texts.{clocked_text, written_three}
use Rattle.hc_verilog.proofs.items.push_register.Goals as goal

pub returns : goal.returns
returns c = written_three c.push-2.result _ _ _ _ _ _ _ _ (clocked_text _) c.in_ok-push.ensures c.in_ok-push_register_lines.ensures c.push-2.ensures
