use Rattle.std.proofs.Common.{◌≡◌, false, sym, ap, ◌∙◌}
use Rattle.hc_bits.specs.BitVector.{BitVector}
use Rattle.hc_rows.specs.Rows.{row_at}
use Rattle.hc_values.specs.Edges.{places, KeepsOthers, StepsRegisters}
use Rattle.hc_values.specs.Rows.{widths}
use Rattle.hc_edges.proofs.LentRows.{as_long, lent_both, lent_here, lent_other}
use Rattle.hc_edges.proofs.rows.step_row.Goals as goal

pub returns-clause-value : goal.returns-clause-value
returns-clause-value c =
    lent_both (λ old new. StepsRegisters c.args.circuit.now c.args.values.now c.args.ids.now old new) c.args.registers.now c.args.p c.row_mut.result.now c.step_registers.new.registers c.row_mut.ensures.value
    (as_long (λ (x : BitVector). x.width) c.step_registers.new.registers (row_at c.args.registers.now c.args.p) (c.step_registers.ensures.widths ∙ sym c.requires.registers)) c.step_registers.ensures.value

pub returns-clause-others : goal.returns-clause-others
returns-clause-others c =
    lent_both (λ old new. KeepsOthers (places c.args.ids.now) old new) c.args.registers.now c.args.p c.row_mut.result.now c.step_registers.new.registers c.row_mut.ensures.value
    (as_long (λ (x : BitVector). x.width) c.step_registers.new.registers (row_at c.args.registers.now c.args.p) (c.step_registers.ensures.widths ∙ sym c.requires.registers)) c.step_registers.ensures.others

pub returns-clause-widths : goal.returns-clause-widths
returns-clause-widths c =
    ap (widths) (lent_here c.args.registers.now c.args.p c.step_registers.new.registers (as_long (λ (x : BitVector). x.width) c.step_registers.new.registers (row_at c.args.registers.now c.args.p) (c.step_registers.ensures.widths ∙ sym c.requires.registers))) ∙ c.step_registers.ensures.widths

pub returns-clause-told : goal.returns-clause-told
returns-clause-told c =
    lent_both (λ old new. c.step_registers.result ≡ false → new ≡ old) c.args.registers.now c.args.p c.row_mut.result.now c.step_registers.new.registers c.row_mut.ensures.value
    (as_long (λ (x : BitVector). x.width) c.step_registers.new.registers (row_at c.args.registers.now c.args.p) (c.step_registers.ensures.widths ∙ sym c.requires.registers)) c.step_registers.ensures.told

pub returns-clause-rows : goal.returns-clause-rows
returns-clause-rows c q n =
    lent_other c.args.registers.now c.args.p q c.step_registers.new.registers (as_long (λ (x : BitVector). x.width) c.step_registers.new.registers (row_at c.args.registers.now c.args.p) (c.step_registers.ensures.widths ∙ sym c.requires.registers)) n
