use Rattle.std.proofs.Common.{◌≡◌, ap, ◌∙◌}
use Rattle.std.specs.Prelude.{slice_get, Some, None}
use Rattle.hc_bits.specs.BitVector.{BitVector}
use Rattle.hc_signal.specs.declared.signal.NodeRow.{NodeRow}
use Rattle.hc_values.specs.Edges.{next_of_row}
use Rattle.hc_values.specs.Rows.{widths}
use Rattle.hc_values.proofs.Places.{alike, placed, placed_alike, unplaced, row_read, row_past}
use Rattle.hc_values.proofs.registers.step_register.Goals as goal

pub next_of-next-requires-clause-width : goal.next_of-next-requires-clause-width
next_of-next-requires-clause-width c =
    let at : slice_get c.args.circuit.now.nodes c.args.id.0 ≡ Some c.in-Some.row.now = let h = c.in-Some.ensures.lookup
    in row_read c.args.circuit.now.nodes c.nodes.result.now c.args.id.0 c.in-Some.row.now c.nodes.ensures h.3.0 h.1 in
    alike (λ (b : BitVector). b.width) (λ (row : NodeRow). row.width) c.args.registers.now c.args.circuit.now.nodes c.requires.registers c.args.id.0 c.in-Some.row.now
    c.index-registers-id.result at c.index-registers-id.is

pub next_of-next-requires-clause-lawful : goal.next_of-next-requires-clause-lawful
next_of-next-requires-clause-lawful c =
    let at : slice_get c.args.circuit.now.nodes c.args.id.0 ≡ Some c.in-Some.row.now = let h = c.in-Some.ensures.lookup
    in row_read c.args.circuit.now.nodes c.nodes.result.now c.args.id.0 c.in-Some.row.now c.nodes.ensures h.3.0 h.1 in
    (c.lawful.ensures.nodes _ _ at).1

pub returns-in-Some-clause-value : goal.returns-in-Some-clause-value
returns-in-Some-clause-value c =
    let at : slice_get c.args.circuit.now.nodes c.args.id.0 ≡ Some c.in-Some.row.now = let h = c.in-Some.ensures.lookup
    in row_read c.args.circuit.now.nodes c.nodes.result.now c.args.id.0 c.in-Some.row.now c.nodes.ensures h.3.0 h.1 in
    c.replace.ensures.value ∙ placed (λ (b : BitVector). b.width) (λ (row : NodeRow). row.width) c.args.registers.now c.args.circuit.now.nodes c.requires.registers
    (next_of_row c.args.values.now) c.args.id.0 c.in-Some.row.now c.index-registers-id.result c.next_of-next.result at c.index-registers-id.is c.next_of-next.ensures

pub returns-in-Some-clause-widths : goal.returns-in-Some-clause-widths
returns-in-Some-clause-widths c =
    let at : slice_get c.args.circuit.now.nodes c.args.id.0 ≡ Some c.in-Some.row.now = let h = c.in-Some.ensures.lookup
    in row_read c.args.circuit.now.nodes c.nodes.result.now c.args.id.0 c.in-Some.row.now c.nodes.ensures h.3.0 h.1 in
    ap widths c.replace.ensures.value ∙ placed_alike (λ (b : BitVector). b.width) (λ (row : NodeRow). row.width) c.args.registers.now c.args.circuit.now.nodes c.requires.registers
    c.args.id.0 c.in-Some.row.now c.index-registers-id.result c.next_of-next.result at c.index-registers-id.is (ap (λ (b : BitVector). b.width) c.next_of-next.ensures)

pub returns-in_default-clause-value : goal.returns-in_default-clause-value
returns-in_default-clause-value c =
    let at : slice_get c.args.circuit.now.nodes c.args.id.0 ≡ None = row_past c.args.circuit.now.nodes c.nodes.result.now c.args.id.0 c.nodes.ensures c.in_default.ensures.lookup.3 in
    unplaced (λ (b : BitVector). b.width) (λ (row : NodeRow). row.width) c.args.registers.now c.args.circuit.now.nodes c.requires.registers (next_of_row c.args.values.now) c.args.id.0 at
