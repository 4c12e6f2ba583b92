use Rattle.std.proofs.Common.{◌≡◌, false, map, sym, ap, ◌∙◌}
use Rattle.hc_rows.specs.Rows.{row_at}
use Rattle.hc_values.specs.Edges.{memory_places, KeepsOthers, StepsMemories}
use Rattle.hc_values.specs.Rows.{widths}
use Rattle.hc_edges.proofs.LentRows.{as_long, lent_both, lent_here, lent_other}
use Rattle.hc_edges.proofs.rows.write_row.Goals as goal

pub returns-clause-value : goal.returns-clause-value
returns-clause-value c =
    lent_both (λ old new. StepsMemories c.args.circuit.now c.args.values.now c.args.ids.now old new) c.args.words.now c.args.p c.row_mut.result.now c.step_memories.new.memories c.row_mut.ensures.value
    (as_long widths c.step_memories.new.memories (row_at c.args.words.now c.args.p) (c.step_memories.ensures.widths ∙ sym c.requires.words)) c.step_memories.ensures.value

pub returns-clause-others : goal.returns-clause-others
returns-clause-others c =
    lent_both (λ old new. KeepsOthers (memory_places c.args.ids.now) old new) c.args.words.now c.args.p c.row_mut.result.now c.step_memories.new.memories c.row_mut.ensures.value
    (as_long widths c.step_memories.new.memories (row_at c.args.words.now c.args.p) (c.step_memories.ensures.widths ∙ sym c.requires.words)) c.step_memories.ensures.others

pub returns-clause-widths : goal.returns-clause-widths
returns-clause-widths c =
    ap (map widths) (lent_here c.args.words.now c.args.p c.step_memories.new.memories (as_long widths c.step_memories.new.memories (row_at c.args.words.now c.args.p) (c.step_memories.ensures.widths ∙ sym c.requires.words))) ∙ c.step_memories.ensures.widths

pub returns-clause-told : goal.returns-clause-told
returns-clause-told c =
    lent_both (λ old new. c.step_memories.result ≡ false → new ≡ old) c.args.words.now c.args.p c.row_mut.result.now c.step_memories.new.memories c.row_mut.ensures.value
    (as_long widths c.step_memories.new.memories (row_at c.args.words.now c.args.p) (c.step_memories.ensures.widths ∙ sym c.requires.words)) c.step_memories.ensures.told

pub returns-clause-rows : goal.returns-clause-rows
returns-clause-rows c q n =
    lent_other c.args.words.now c.args.p q c.step_memories.new.memories (as_long widths c.step_memories.new.memories (row_at c.args.words.now c.args.p) (c.step_memories.ensures.widths ∙ sym c.requires.words)) n
