use Rattle.std.proofs.Common.{◌+◌, subst, sym}
use Rattle.std.proofs.lemmas.Result.{IfOk-at_ok}
use Rattle.hc_turn.specs.Passes.{known}
use Rattle.hc_db.specs.Database.{lock_of}
use Rattle.hc_plan.specs.Stepping.{outs_of}
use Rattle.hc_workers.specs.Levels.{IsLevelDone}
use Rattle.hc_workers.specs.Working.{KnowsOuts}
use Rattle.hc_workers.proofs.Heights.{knows_low, level_back, none_before}
use Rattle.hc_workers.proofs.Passing.{back_through, unused}
use Rattle.hc_workers.proofs.levels.finish_to.Goals as goal

pub below-init : goal.below-init
below-init g c = (unused (lock_of c.args.db.now) c.args.pass c.requires.lock c.requires.free, none_before (known c.args.pass) c.args.rows.now c.in-Ok.outs.items c.requires.heights c.in-Ok.ensures)

pub finish_level-after-requires-clause-knows : goal.finish_level-after-requires-clause-knows
finish_level-after-requires-clause-knows g c κs within =
    subst (λ l. KnowsOuts (known c.below.pass) (outs_of l)) (sym c.as_mut_slice.ensures.value)
    (knows_low (known c.args.pass) (known c.below.pass) c.args.rows.now (outs_of c.below.outs.items) c.below.below c.below.invariant.1)

pub returns-in-Err-done-clause-back : goal.returns-in-Err-done-clause-back
returns-in-Err-done-clause-back g c = back_through (lock_of c.args.db.now) c.args.pass c.below.pass c.finish_level-after.result.0 c.below.invariant.0 c.finish_level-after.ensures.back

pub below-preserved : goal.below-preserved
below-preserved g c = (
  back_through (lock_of c.args.db.now) c.args.pass c.below.pass c.finish_level-after.result.0 c.below.invariant.0 c.finish_level-after.ensures.back,
  level_back (known c.args.pass) (known c.below.pass) (known c.finish_level-after.result.0) c.args.rows.now c.below.outs.items c.finish_level-after.new.outs c.below.outs.len
      c.below.below c.requires.heights c.below.outs.ok.0 c.below.invariant.1
      (subst (λ l. IsLevelDone (known c.below.pass) (known c.finish_level-after.result.0) c.args.rows.now (c.below.below + 1) l c.finish_level-after.new.outs) c.as_mut_slice.ensures.value
      (IfOk-at_ok (λ u. IsLevelDone (known c.below.pass) (known c.finish_level-after.result.0) c.args.rows.now
      (c.below.below + 1) c.as_mut_slice.result.now c.finish_level-after.new.outs) c.in-Ok-done.is c.finish_level-after.ensures.ok))
      c.finish_level-after.ensures.back.keeps,
)
