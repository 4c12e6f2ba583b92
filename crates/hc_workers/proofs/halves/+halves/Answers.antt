use Rattle.std.proofs.Common.{◌≤◌, ◌-◌, ◌/◌, arith, subst, sym}
use Rattle.hc_turn.specs.Passes.{IsOf}
use Rattle.hc_db.specs.Database.{lock_of}
use Rattle.hc_plan.specs.Stepping.{outs_of}
use Rattle.hc_workers.specs.Working.{MayFinish}
use Rattle.hc_workers.proofs.Joining.{first_may, halves_back, halves_finish, is_joined, second_may}
use Rattle.hc_workers.proofs.halves.+halves.Goals as goal

pub finish_halves-returns-clause-joined : goal.finish_halves-returns-clause-joined
finish_halves-returns-clause-joined g t c =
    let one = c.join-one.ensures.first in
    let two = c.join-one.ensures.second in
    let j = c.join.ensures in
    is_joined (lock_of c.args.db.now) c.args.first c.args.second _ _ c.join.result c.known_turns_stay_known.ensures.joined one.0 two.0 j.pass
    (subst (λ l. IsOf l c.join.result) c.lock.ensures j.lock) j.seen.0

pub finish_halves-returns-clause-ok : goal.finish_halves-returns-clause-ok
finish_halves-returns-clause-ok g t c =
    halves_finish _ _ _ _ _ _ _ _ _ _ _ c.both.result c.known_turns_stay_known.ensures.joined c.join.ensures.pass c.requires.none c.join-one.ensures.first.1 c.join-one.ensures.second.1 c.both.ensures

pub finish_many-finish_halves-requires-clause-first : goal.finish_many-finish_halves-requires-clause-first
finish_many-finish_halves-requires-clause-first g t c κs within =
    let lock = lock_of c.args.db.now in
    let rows = c.args.rows.now in
    let outs = outs_of c.args.outs.now in
    let workers = c.args.workers in
    let two : 2 ≤ workers = omega arith in
    subst (λ l. MayFinish lock c.in-Ok.first (workers - workers / 2) rows outs l) (sym c.split_at.ensures.front)
    (first_may lock c.args.pass workers rows outs c.args.places.now c.requires two c.in-Ok.first _ (subst (λ l. IsOf l c.in-Ok.first) c.lock.ensures c.in-Ok.ensures.lock.0) c.in-Ok.ensures.first)

pub finish_many-finish_halves-requires-clause-second : goal.finish_many-finish_halves-requires-clause-second
finish_many-finish_halves-requires-clause-second g t c κs within =
    let lock = lock_of c.args.db.now in
    let rows = c.args.rows.now in
    let outs = outs_of c.args.outs.now in
    let workers = c.args.workers in
    let two : 2 ≤ workers = omega arith in
    subst (λ l. MayFinish lock c.in-Ok.second (workers / 2) rows outs l) (sym c.split_at.ensures.back)
    (second_may lock c.args.pass workers rows outs c.args.places.now c.requires two c.in-Ok.second _ (subst (λ l. IsOf l c.in-Ok.second) c.lock.ensures c.in-Ok.ensures.lock.1) c.in-Ok.ensures.second)

pub finish_many-returns-in-Ok-clause-back : goal.finish_many-returns-in-Ok-clause-back
finish_many-returns-in-Ok-clause-back g t c =
    halves_back (lock_of c.args.db.now) c.args.pass c.in-Ok.first c.in-Ok.second c.finish_halves.result.0 c.in-Ok.ensures.first c.in-Ok.ensures.second c.finish_halves.ensures.joined
