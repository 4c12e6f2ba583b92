use Rattle.std.proofs.Common.{refl, ap, ◌∙◌}
use Rattle.std.specs.Prelude.{Some}
use Rattle.hc_signal.specs.Builds.{labelled_instance}
use Rattle.hc_signal.proofs.ChangedInstances.{kept_instance_label, changed_instances, instance_there, instance_labelled}
use Rattle.hc_signal.proofs.builder.Builder.label_instance.Goals as goal

pub invariant_of-self : goal.invariant_of-self
invariant_of-self c =
    let label : _ = instance_labelled c.index_mut-instance.result.now c.put_label.new.place c.args.label.now (c.put_label.ensures ∙ ap Some (c.in_ok-label.ensures ∙ c.bytes.ensures)) in
    kept_instance_label _ c.args.self.now c.args.id c.args.label.now c.index_mut-instance.result.now _ _ _ _ _ c.self.invariant c.self.view_is c.requires c.index_mut-instance.ensures.value label refl

pub returns-clause-made : goal.returns-clause-made
returns-clause-made c =
    let label : _ = instance_labelled c.index_mut-instance.result.now c.put_label.new.place c.args.label.now (c.put_label.ensures ∙ ap Some (c.in_ok-label.ensures ∙ c.bytes.ensures)) in
    changed_instances _ c.args.self.now c.args.id.0 (labelled_instance c.args.label.now) c.index_mut-instance.result.now _ _ c.self.view_is
    (instance_there _ c.args.self.now c.args.id.0 _ c.self.view_is c.requires c.index_mut-instance.ensures.value) label refl
