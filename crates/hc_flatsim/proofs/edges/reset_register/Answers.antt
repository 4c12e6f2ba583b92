use Rattle.std.proofs.Common.{◌≡◌, ap, ◌∙◌}
use Rattle.std.specs.Prelude.{slice_get, Some, None}
use Rattle.hc_bits.specs.BitVector.{BitVector}
use Rattle.hc_signal.specs.declared.signal.NodeRow.{NodeRow}
use Rattle.hc_flatsim.specs.Edges.{initial_of_row}
use Rattle.hc_flatsim.proofs.Computing.{initial_width}
use Rattle.hc_flatsim.proofs.Registers.{alike, placed, placed_alike, unplaced, row_read, row_past}
use Rattle.hc_flatsim.proofs.edges.reset_register.Goals as goal

pub returns-in-Some-clause-value : goal.returns-in-Some-clause-value
returns-in-Some-clause-value c =
    let at : slice_get c.args.circuit.now.nodes c.args.id.0 ≡ Some c.in-Some.row.now = let h = c.in-Some.ensures.lookup
    in row_read c.args.circuit.now.nodes c.nodes.result.now c.args.id.0 c.in-Some.row.now c.nodes.ensures h.3.0 h.1 in
    placed (λ (b : BitVector). b.width) (λ (row : NodeRow). row.width) c.args.registers.now c.args.circuit.now.nodes c.requires.registers initial_of_row c.args.id.0
    c.in-Some.row.now c.index-registers-id.result c.initial_of-initial.result at c.index-registers-id.is c.initial_of-initial.ensures

pub returns-in_default-clause-value : goal.returns-in_default-clause-value
returns-in_default-clause-value c =
    let at : slice_get c.args.circuit.now.nodes c.args.id.0 ≡ None = row_past c.args.circuit.now.nodes c.nodes.result.now c.args.id.0 c.nodes.ensures c.in_default.ensures.lookup.3 in
    unplaced (λ (b : BitVector). b.width) (λ (row : NodeRow). row.width) c.args.registers.now c.args.circuit.now.nodes c.requires.registers initial_of_row c.args.id.0 at

pub returns-in-Some-clause-widths : goal.returns-in-Some-clause-widths
returns-in-Some-clause-widths c =
    let at : slice_get c.args.circuit.now.nodes c.args.id.0 ≡ Some c.in-Some.row.now = let h = c.in-Some.ensures.lookup
    in row_read c.args.circuit.now.nodes c.nodes.result.now c.args.id.0 c.in-Some.row.now c.nodes.ensures h.3.0 h.1 in
    let same : c.index-registers-id.result.width ≡ c.in-Some.row.now.width = alike (λ (b : BitVector). b.width)
    (λ (row : NodeRow). row.width) c.args.registers.now c.args.circuit.now.nodes c.requires.registers c.args.id.0 c.in-Some.row.now c.index-registers-id.result at c.index-registers-id.is in
    placed_alike (λ (b : BitVector). b.width) (λ (row : NodeRow). row.width) c.args.registers.now c.args.circuit.now.nodes c.requires.registers c.args.id.0 c.in-Some.row.now
    c.index-registers-id.result c.initial_of-initial.result at c.index-registers-id.is
    (ap (λ (b : BitVector). b.width) c.initial_of-initial.ensures ∙ initial_width c.args.circuit.now c.in-Some.row.now.width c.in-Some.row.now.node c.index-registers-id.result
    (c.lawful.ensures.nodes c.args.id.0 c.in-Some.row.now at).1 same)
