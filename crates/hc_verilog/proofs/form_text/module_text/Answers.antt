use Rattle.hc_verilog.proofs.Assembly.{form_text_is}
use Rattle.hc_verilog.proofs.form_text.module_text.Goals as goal

pub returns : goal.returns
returns c =
    form_text_is c.args.form.now c.args.names.now c.args.name.now _ c.in_ok-tables.tables.names c.requires c.in_ok-tables.ensures.names
    (rw (c.new-out.ensures.items, c.bytes.ensures) at c.in_ok-push_module.ensures)
