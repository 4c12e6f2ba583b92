use Rattle.hc_naming.specs.NameTable.{name_by}
use Rattle.hc_verilog.specs.Results.{result_name}
use Rattle.hc_verilog.proofs.Texts.{written_four}
use Rattle.hc_verilog.proofs.Parts.{instance_parts}
use Rattle.hc_verilog.proofs.instances.push_instance.Goals as goal

pub returns : goal.returns
returns c =
    written_four c.push.result _ _ _ _ _ _ _ _ _ _
    (instance_parts (name_by c.args.names.now) c.args.title.now (result_name (name_by c.args.names.now) c.args.results.now.entries c.args.place) c.args.place c.args.instance.now)
    (rw c.instance.ensures at c.in_ok-push_start.ensures)
    (rw (c.as_slice.ensures, c.as_slice-2.ensures) at c.in_ok-push_connections.ensures)
    (rw c.as_slice-3.ensures at c.in_ok-push_results.ensures)
    c.push.ensures
