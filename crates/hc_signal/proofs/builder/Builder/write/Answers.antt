use Rattle.std.proofs.Common.{refl, sym, subst, ◌∙◌}
use Rattle.hc_signal.specs.Builds.{written, IsMemory}
use Rattle.hc_signal.proofs.ChangedMemories.{kept_write, changed_memories, memory_there}
use Rattle.hc_signal.proofs.builder.Builder.write.Goals as goal

pub invariant_of-self-2 : goal.invariant_of-self-2
invariant_of-self-2 c =
    kept_write _ c.args.self.now c.args.mem (record { enable = c.args.enable; addr = c.args.addr; value = c.args.value }) c.index_mut-memory.result.now c.add_write.new.memory _ _ _ _ _ _ _
    c.self.invariant c.self.view_is c.requires.mem c.requires.enable c.requires.addr c.requires.value c.index_mut-memory.ensures.value
    c.width.ensures.value c.width-2.ensures.value c.memory_width.ensures.value c.in_ok-check_write.ensures c.in_ok-add_write.ensures.made refl

pub returns-clause-made : goal.returns-clause-made
returns-clause-made c =
    changed_memories _ c.args.self.now c.args.mem.0 (written (record { enable = c.args.enable; addr = c.args.addr; value = c.args.value })) c.index_mut-memory.result.now c.add_write.new.memory _ c.self.view_is
    (memory_there _ c.args.self.now c.args.mem.0 _ c.self.view_is c.requires.mem c.index_mut-memory.ensures.value) c.in_ok-add_write.ensures.made refl
