use Rattle.std.proofs.Common.{[], ◌∷◌, ◌++◌, length, ap, ◌∙◌, sym}
use Rattle.hc_layout.proofs.Laid.{laid_begin, laid_step, laid_all, found, longer_by_one}
use Rattle.hc_layout.proofs.layout.Layout.new.Goals as goal

pub instances-init : goal.instances-init
instances-init c = (
  laid_begin _ _ _ _ c.requires (c.in_ok-push.ensures.items ∙ ap (λ xs. xs ++ c.args.top ∷ []) c.new-entries.ensures.items) c.new-first.ensures.items,
  ap length
      c.new-first.ensures.items,
)

pub number_kids-requires : goal.number_kids-requires
number_kids-requires c = c.instances.invariant.0.laid.known _ _ (sym (found _ _ _ _ _ c.in-Some.is c.entry_at.ensures c.as_slice.ensures.value))

pub instances-preserved : goal.instances-preserved
instances-preserved c = (
  laid_step _ _ _ _ _ _ _ _ c.legal.ensures c.instances.invariant.0 c.instances.invariant.1 (found _ _ _ _ _ c.in-Some.is c.entry_at.ensures c.as_slice.ensures.value)
      c.in_ok-number_kids-in-Some.ensures.entries c.in_ok-number_kids-in-Some.ensures.first,
  longer_by_one _ _ _ _ c.instances.invariant.1 c.in_ok-number_kids-in-Some.ensures.first,
)

pub returns-in-None : goal.returns-in-None
returns-in-None c = laid_all _ _ _ _ _ c.instances.invariant.0 c.instances.invariant.1 (found _ _ _ _ _ c.in-None.is c.entry_at.ensures c.as_slice.ensures.value)
