use Rattle.std.proofs.Common.{◌≡◌}
use Rattle.std.specs.Prelude.{slice_get, Some}
use Rattle.hc_flatsim.proofs.Arms.{value_set}
use Rattle.hc_flatsim.proofs.Registers.{row_read}
use Rattle.hc_flatsim.proofs.settle.settle_node.Goals as goal

pub returns-in-Some-clause-widths : goal.returns-in-Some-clause-widths
returns-in-Some-clause-widths g c =
    let at : slice_get c.args.circuit.now.nodes c.args.id.0 ≡ Some c.in-Some.row.now = let h = c.in-Some.ensures.lookup
    in row_read c.args.circuit.now.nodes c.nodes.result.now c.args.id.0 c.in-Some.row.now c.nodes.ensures h.3.0 h.1 in
    value_set c.args.circuit.now (record { registers = c.args.registers.now; memories = c.args.memories.now; inputs = c.args.inputs.now }) c.args.values.now c.args.id.0
    c.in-Some.row.now c.compute-value.result c.requires.values at c.compute-value.ensures
