use Rattle.std.proofs.Common.{refl, ap, ◌∙◌}
use Rattle.std.specs.Prelude.{Some}
use Rattle.hc_signal.specs.Builds.{labelled_memory}
use Rattle.hc_signal.proofs.ChangedMemories.{kept_memory_label, changed_memories, memory_there, memory_labelled}
use Rattle.hc_signal.proofs.builder.Builder.label_memory.Goals as goal

pub invariant_of-self : goal.invariant_of-self
invariant_of-self c =
    let label : _ = memory_labelled c.index_mut-memory.result.now c.put_label.new.place c.args.label.now (c.put_label.ensures ∙ ap Some (c.in_ok-label.ensures ∙ c.bytes.ensures)) in
    kept_memory_label _ c.args.self.now c.args.id c.args.label.now c.index_mut-memory.result.now _ _ _ _ _ c.self.invariant c.self.view_is c.requires c.index_mut-memory.ensures.value label refl

pub returns-clause-made : goal.returns-clause-made
returns-clause-made c =
    let label : _ = memory_labelled c.index_mut-memory.result.now c.put_label.new.place c.args.label.now (c.put_label.ensures ∙ ap Some (c.in_ok-label.ensures ∙ c.bytes.ensures)) in
    changed_memories _ c.args.self.now c.args.id.0 (labelled_memory c.args.label.now) c.index_mut-memory.result.now _ _ c.self.view_is
    (memory_there _ c.args.self.now c.args.id.0 _ c.self.view_is c.requires c.index_mut-memory.ensures.value) label refl
