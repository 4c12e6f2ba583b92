use Rattle.hc_naming.specs.NameTable.{name_by}
use Rattle.hc_verilog.proofs.Texts.{written_four}
use Rattle.hc_verilog.proofs.Parts.{header_parts}
use Rattle.hc_verilog.proofs.header.push_header.Goals as goal

pub returns : goal.returns
returns c =
    written_four c.push.result _ _ _ _ _ _ _ _ _ _ (header_parts (name_by c.args.names.now) c.args.circuit.now c.args.title.now)
    c.in_ok-push_title.ensures
    (rw (c.as_slice.ensures, c.ports-ports.ensures) at c.in_ok-push_inputs.ensures)
    (rw (c.outputs.ensures, c.as_slice-2.ensures, c.ports-ports.ensures) at c.in_ok-push_outputs.ensures)
    c.push.ensures
