use Rattle.std.proofs.Common.{[], get_or, subst, sym, take}
use Rattle.std.proofs.lemmas.List.{take_more}
use Rattle.hc_turn.specs.Passes.{known}
use Rattle.hc_db.specs.Database.{lock_of}
use Rattle.hc_plan.specs.Stepping.{outs_of}
use Rattle.hc_workers.specs.Working.{AreFinishedAt}
use Rattle.hc_workers.proofs.Knowing.{knows_still, none_finished, one_more}
use Rattle.hc_workers.proofs.Passing.{back_through, ready_one, row_within, unused}
use Rattle.hc_workers.proofs.finish.finish_each.Goals as goal

pub places-init : goal.places-init
places-init g c =
    let v = known c.args.pass in
    let rows = c.args.rows.now in
    let outs = outs_of c.args.outs.now in
    (unused (lock_of c.args.db.now) c.args.pass c.requires.lock c.requires.free, subst (λ l. AreFinishedAt v v rows outs [] (outs_of l)) (sym c.new-list.ensures.items) (none_finished v rows outs))

pub finish_at-requires-clause-knows : goal.finish_at-requires-clause-knows
finish_at-requires-clause-knows g c = knows_still (known c.args.pass) (known c.places.pass) (outs_of c.args.outs.now) c.places.invariant.0.keeps c.requires.knows

pub finish_at-requires-clause-within : goal.finish_at-requires-clause-within
finish_at-requires-clause-within g c = row_within _ _ (ready_one c.args.rows.now c.args.places.now c.places.place-index c.places-test.true c.requires.ready)

pub finish_at-requires-clause-ready : goal.finish_at-requires-clause-ready
finish_at-requires-clause-ready g c = ready_one c.args.rows.now c.args.places.now c.places.place-index c.places-test.true c.requires.ready

pub returns-in-Err-clause-back : goal.returns-in-Err-clause-back
returns-in-Err-clause-back g c = back_through (lock_of c.args.db.now) c.args.pass c.places.pass c.finish_at.new.pass c.places.invariant.0 c.finish_at.ensures.back

pub places-preserved : goal.places-preserved
places-preserved g c =
    let v = known c.args.pass in
    let rows = c.args.rows.now in
    let outs = outs_of c.args.outs.now in
    let places = c.args.places.now in
    let i = c.places.place-index in (
      back_through (lock_of c.args.db.now) c.args.pass c.places.pass c.finish_at.new.pass c.places.invariant.0 c.finish_at.ensures.back,
      subst (λ l. AreFinishedAt v (known c.finish_at.new.pass) rows outs l (outs_of c.finish_at.new.list.items)) (sym (take_more places i 0 c.places-test.true))
          (one_more v (known c.places.pass) (known c.finish_at.new.pass) rows outs (take i places) (get_or places i 0) _ _ c.places.invariant.1 c.in-Ok.ensures.ok c.finish_at.ensures.back.keeps),
    )
