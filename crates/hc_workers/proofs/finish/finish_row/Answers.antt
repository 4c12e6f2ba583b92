use Rattle.hc_turn.specs.Passes.{known}
use Rattle.hc_workers.proofs.Knowing.{is_inserted, is_looped, is_passed_over, kids_known}
use Rattle.hc_workers.proofs.finish.finish_row.Goals as goal

pub insert-requires-clause-kids : goal.insert-requires-clause-kids
insert-requires-clause-kids g c = kids_known (known c.args.pass.now) _ _ _ _ c.requires.knows (c.in-Ok.ensures.ready _ _ c.in-Ready.is)

pub returns-in-Ok-insert-clause-back : goal.returns-in-Ok-insert-clause-back
returns-in-Ok-insert-clause-back g c =
    let i = c.insert.ensures in
    record { is_of = i.lock; free = i.free; share = i.share; seen = i.seen.0; keeps = λ p t knows. c.known_turns_stay_known.ensures.inserted _ _ _ _ p t c.in-Ok-insert.ensures.ok knows }

pub returns-in-Ok-insert-clause-ok : goal.returns-in-Ok-insert-clause-ok
returns-in-Ok-insert-clause-ok g c = is_inserted _ _ _ _ _ _ _ (c.in-Ok.ensures.ready _ _ c.in-Ready.is) (c.known_turns_stay_known.ensures.own _ _ _ _ c.in-Ok-insert.ensures.ok)

pub returns-in-Err-insert-clause-back : goal.returns-in-Err-insert-clause-back
returns-in-Err-insert-clause-back g c =
    let i = c.insert.ensures in
    record { is_of = i.lock; free = i.free; share = i.share; seen = i.seen.0; keeps = λ p t knows. c.known_turns_stay_known.ensures.refused _ _ p t c.in-Err-insert.ensures.err knows }

pub returns-in-Looped-clause-ok : goal.returns-in-Looped-clause-ok
returns-in-Looped-clause-ok g c = is_looped _ _ _ (c.in-Ok.ensures.looped c.in-Looped.is)

pub returns-in-PassedOver-clause-ok : goal.returns-in-PassedOver-clause-ok
returns-in-PassedOver-clause-ok g c = is_passed_over _ _ _ (c.in-Ok.ensures.passed c.in-PassedOver.is)
