use Rattle.std.proofs.Common.{◌≡◌, ◌++◌, length, true≢false, eqb-true, eq-eqb, sym, ap, subst, ◌∙◌}
use Rattle.std.specs.Prelude.{OnOk}
use Rattle.hc_naming.specs.NameTable.{name_by}
use Rattle.hc_verilog.proofs.Parts.{memory_none, memory_some}
use Rattle.hc_verilog.proofs.memories.push_memory.Goals as goal

pub returns-then-is_empty : goal.returns-then-is_empty
returns-then-is_empty c =
    memory_none (name_by c.args.names.now) c.args.place c.args.memory.now c.args.out.now.items
    (ap length (sym c.as_slice-ports.ensures) ∙ eqb-true _ 0 (sym c.is_empty.ensures ∙ c.if-is_empty.true))

pub returns-else-is_empty : goal.returns-else-is_empty
returns-else-is_empty c =
    subst (λ l. OnOk c.push_block.result (c.push_block.new.out.items ≡ c.args.out.now.items ++ l))
    (memory_some (name_by c.args.names.now) c.args.place c.args.memory.now
    (λ none. true≢false (sym (eq-eqb _ 0 (ap length c.as_slice-ports.ensures ∙ none)) ∙ sym c.is_empty.ensures ∙ c.if-is_empty.false)))
    (rw c.as_slice-ports.ensures at c.push_block.ensures)
