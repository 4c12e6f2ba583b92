use Rattle.hc_output.proofs.VerilogTexts.{verilog_text}
use Rattle.hc_output.proofs.verilog_laws.verilog_texts_exist.Goals as goal

pub returns : goal.returns
returns c d e x =
    verilog_text e.calls (c.elaborated_calls_are_lawful.ensures.whole d e x) (c.elaborated_calls_are_lawful.ensures.checked d e x) (c.elaborated_calls_are_closed.ensures d e x)
    c.hierarchies_have_texts.ensures e.tree (c.elaborated_calls_are_lawful.ensures.few d e x)
