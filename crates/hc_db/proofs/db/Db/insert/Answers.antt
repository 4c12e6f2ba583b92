use Rattle.hc_turn.specs.Passes.{known, seen, kept}
use Rattle.hc_dbstate.specs.History.{log}
use Rattle.hc_db.specs.Inserting.{Finds}
use Rattle.hc_db.proofs.Turns.{grows, adds, inserts, owns_all}
use Rattle.hc_db.proofs.db.Db.insert.Goals as goal

pub insert-answer-requires : goal.insert-answer-requires
insert-answer-requires g c =
    let old = c.enter-state.result.state in
    let found : Finds (known c.args.pass.now) old = record { legal = c.legal.ensures; seen = c.enter-state.ensures.seen; kept = c.enter-state.ensures.kept } in
    record { kids = λ id kid. c.known_entries_are_there.ensures (known c.args.pass.now) old id found (c.requires.kids id kid) }

pub returns-clause-seen : goal.returns-clause-seen
returns-clause-seen g c =
    let old = c.enter-state.result.state in
    let new = c.insert-answer.new.self in
    let insert = c.insert-answer.ensures in
    grows (seen c.args.pass.now) (log old) (log new) (seen c.leave.new.pass) (kept c.args.pass.now) c.leave.ensures.seen
    (adds old new c.args.form c.insert-answer.result insert.ok insert.same) c.enter-state.ensures.seen c.enter-state.ensures.kept

pub returns-clause-ok : goal.returns-clause-ok
returns-clause-ok g c =
    let old = c.enter-state.result.state in
    let found : Finds (known c.args.pass.now) old = record { legal = c.legal.ensures; seen = c.enter-state.ensures.seen; kept = c.enter-state.ensures.kept } in
    inserts old c.insert-answer.new.self c.args.form _ (known c.enter-state.new.pass) (known c.leave.new.pass) found c.legal-2.ensures c.enter-state.ensures.pass
    c.insert-answer.result c.insert-answer.ensures.ok c.leave.ensures.more

pub returns-clause-all : goal.returns-clause-all
returns-clause-all g c whole =
    let old = c.enter-state.result.state in
    let new = c.insert-answer.new.self in
    let insert = c.insert-answer.ensures in
    owns_all (known c.args.pass.now) (known c.enter-state.new.pass) (known c.leave.new.pass) (log old) (log new) c.enter-state.ensures.pass
    (adds old new c.args.form c.insert-answer.result insert.ok insert.same) c.leave.ensures.same c.leave.ensures.more (c.enter-state.ensures.all whole)
