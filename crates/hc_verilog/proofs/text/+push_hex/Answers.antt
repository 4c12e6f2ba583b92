use Rattle.hc_verilog.proofs.Texts.{hex_last}
use Rattle.hc_verilog.proofs.text.+push_hex.Goals as goal

pub returns-in_ok-push : goal.returns-in_ok-push
returns-in_ok-push t c = hex_last c.args.out.now.items _ _ c.args.digits c.args.value _ c.if-digits-gt0.true c.in_ok-push_hex.ensures c.digit_of.ensures c.in_ok-push.ensures
