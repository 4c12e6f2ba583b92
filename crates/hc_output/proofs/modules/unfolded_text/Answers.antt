use Rattle.hc_output.proofs.Naming.{all_named}
use Rattle.hc_output.proofs.modules.unfolded_text.Goals as goal

pub verilog-requires-clause-named : goal.verilog-requires-clause-named
verilog-requires-clause-named c = all_named c.args.db.now.entries c.args.hier.now c.in_ok-names.names c.in_ok-names.ensures
