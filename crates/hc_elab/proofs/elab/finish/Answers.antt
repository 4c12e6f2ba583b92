use Rattle.hc_elab.proofs.Finished.{is_inserted, is_looped, is_passed_over, kids_there}
use Rattle.hc_elab.proofs.elab.finish.Goals as goal

pub insert-requires : goal.insert-requires
insert-requires c = record { kids = kids_there c.args.db.now _ _ _ _ c.requires.there (c.in_ok-step.ensures.ready _ _ c.in-Ready.is) }

pub returns-in-Ok-clause-ok : goal.returns-in-Ok-clause-ok
returns-in-Ok-clause-ok c =
    is_inserted _ _ _ _ _ _ _ (c.in_ok-step.ensures.ready _ _ c.in-Ready.is) c.in-Ok.ensures.ok (c.entries_keep_their_forms.ensures.inserted _ _ _ _ c.in-Ok.ensures.ok)

pub returns-in-Looped-clause-ok : goal.returns-in-Looped-clause-ok
returns-in-Looped-clause-ok c = is_looped _ _ _ (c.in_ok-step.ensures.looped c.in-Looped.is)

pub returns-in-PassedOver-clause-ok : goal.returns-in-PassedOver-clause-ok
returns-in-PassedOver-clause-ok c = is_passed_over _ _ _ (c.in_ok-step.ensures.passed c.in-PassedOver.is)
