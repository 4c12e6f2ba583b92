use Rattle.std.proofs.Common.{◌≡◌, ◌∙◌, ap, sym}
use Rattle.std.specs.Prelude.{slice_get, Some}
use Rattle.hc_signal.specs.Lawful.{IsLawfulMemory}
use Rattle.hc_walk.proofs.Members.{has_slice}
use Rattle.hc_flatsim.specs.Edges.{next_of_memory, written_all}
use Rattle.hc_flatsim.specs.Machine.{widths, memory_widths}
use Rattle.hc_flatsim.proofs.Registers.{alike, placed, placed_alike, row_read}
use Rattle.hc_flatsim.proofs.WordWidths.{memory_written}
use Rattle.hc_flatsim.proofs.edges.step_memory.Goals as goal

pub write_all-requires-clause-lawful : goal.write_all-requires-clause-lawful
write_all-requires-clause-lawful c =
    let at : slice_get c.args.circuit.now.memories c.args.id.0 ≡ Some c.in-Some.memory.now = let h = c.in-Some.ensures.lookup
    in row_read c.args.circuit.now.memories c.memories.result.now c.args.id.0 c.in-Some.memory.now c.memories.ensures h.3.0 h.1 in
    c.lawful.ensures.memories c.in-Some.memory.now (has_slice c.args.circuit.now.memories c.args.id.0 c.in-Some.memory.now at)

pub returns-in-Some-clause-value : goal.returns-in-Some-clause-value
returns-in-Some-clause-value c =
    let at : slice_get c.args.circuit.now.memories c.args.id.0 ≡ Some c.in-Some.memory.now = let h = c.in-Some.ensures.lookup
    in row_read c.args.circuit.now.memories c.memories.result.now c.args.id.0 c.in-Some.memory.now c.memories.ensures h.3.0 h.1 in
    placed widths memory_widths c.args.memories.now c.args.circuit.now.memories c.requires.memories
    (next_of_memory c.args.circuit.now c.args.values.now) c.args.id.0 c.in-Some.memory.now c.index-memories-id.result c.write_all.new.words at c.index-memories-id.is
    (c.write_all.ensures.value ∙ ap (written_all c.args.circuit.now c.args.values.now c.in-Some.memory.now.writes) (sym c.index-memories-id.is))

pub returns-in-Some-clause-widths : goal.returns-in-Some-clause-widths
returns-in-Some-clause-widths c =
    let at : slice_get c.args.circuit.now.memories c.args.id.0 ≡ Some c.in-Some.memory.now = let h = c.in-Some.ensures.lookup
    in row_read c.args.circuit.now.memories c.memories.result.now c.args.id.0 c.in-Some.memory.now c.memories.ensures h.3.0 h.1 in
    let lawful : IsLawfulMemory c.args.circuit.now c.in-Some.memory.now = c.lawful.ensures.memories c.in-Some.memory.now (has_slice c.args.circuit.now.memories c.args.id.0 c.in-Some.memory.now at) in
    placed_alike widths memory_widths c.args.memories.now c.args.circuit.now.memories c.requires.memories c.args.id.0 c.in-Some.memory.now c.index-memories-id.result
    c.write_all.new.words at c.index-memories-id.is
    (memory_written c.args.circuit.now c.args.values.now c.in-Some.memory.now c.index-memories-id.result c.write_all.new.words lawful
    (alike widths memory_widths c.args.memories.now c.args.circuit.now.memories c.requires.memories c.args.id.0 c.in-Some.memory.now c.index-memories-id.result at
    c.index-memories-id.is) (c.write_all.ensures.value ∙ ap (written_all c.args.circuit.now c.args.values.now c.in-Some.memory.now.writes) (sym c.index-memories-id.is)))
