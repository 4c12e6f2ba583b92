use Rattle.std.proofs.Common.{refl}
use Rattle.hc_store.specs.declared.store.Store.{Store}
use Rattle.hc_store.proofs.Taken.{advances_then}
use Rattle.hc_store.proofs.Runs.{cleared_advances, all_settled}
use Rattle.hc_store.proofs.settling.settle.Goals as goal

pub returns-clause-advances : goal.returns-clause-advances
returns-clause-advances g c =
    let mid : Store = c.run_top.new.store in
    let new : Store = record { values = mid.values; stale = c.fill.new.self; moved = mid.moved } in
    advances_then c.args.site.now c.args.store.now mid new c.run_top.ensures.advances (cleared_advances c.args.site.now c.args.store.now mid new refl refl c.fill.ensures)

pub returns-clause-settled : goal.returns-clause-settled
returns-clause-settled g c =
    let mid : Store = c.run_top.new.store in
    let new : Store = record { values = mid.values; stale = c.fill.new.self; moved = mid.moved } in
    all_settled c.args.site.now c.args.store.now mid new refl refl c.fill.ensures c.run_top.ensures.settled
