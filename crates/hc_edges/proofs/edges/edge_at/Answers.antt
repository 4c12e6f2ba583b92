use Rattle.std.proofs.Common.{false, length, refl, ap}
use Rattle.std.specs.Vec.{with_item}
use Rattle.hc_store.specs.declared.store.Store.{Store}
use Rattle.hc_edges.proofs.Edged.{edged_changed, edged_quiet, edged_rests, moved_here, moved_other, not_both}
use Rattle.hc_edges.proofs.Woken.{store_woken, wakes_one}
use Rattle.hc_edges.proofs.edges.edge_at.Goals as goal

pub returns-then-step_instance-clause-store : goal.returns-then-step_instance-clause-store
returns-then-step_instance-clause-store c =
    let i = c.requires.fit.instances c.args.p c.requires.instance in
    store_woken c.args.clocked.now c.args.p c.args.contents.now c.step_instance.new.contents c.args.store.now c.wake_readers.new.store c.wake_readers.ensures.values c.step_instance.ensures.others c.wake_readers.ensures.marks
    i.0 i.1 i.2 i.3 (ap length c.wake_readers.ensures.moved) c.requires.store

pub returns-then-step_instance-clause-edge : goal.returns-then-step_instance-clause-edge
returns-then-step_instance-clause-edge c =
    edged_changed c.args.clocked.now c.args.p c.args.contents.now c.step_instance.new.contents c.args.store.now c.wake_readers.new.store
    (moved_here c.args.store.now c.args.p c.index.result.now _ c.requires.store.moved c.requires.instance c.index.ensures c.if-index.true) c.step_instance.ensures.steps c.wake_readers.ensures.moved

pub returns-then-step_instance-clause-marks : goal.returns-then-step_instance-clause-marks
returns-then-step_instance-clause-marks c =
    let i = c.requires.fit.instances c.args.p c.requires.instance in
    wakes_one c.args.clocked.now c.args.p c.args.contents.now c.step_instance.new.contents c.args.store.now c.wake_readers.new.store c.wake_readers.ensures.values c.step_instance.ensures.others c.wake_readers.ensures.marks
    i.0 i.1 i.2 i.3

pub returns-else-step_instance-clause-edge : goal.returns-else-step_instance-clause-edge
returns-else-step_instance-clause-edge c =
    let next : Store = record { values = c.args.store.now.values; stale = c.args.store.now.stale; moved = with_item c.args.store.now.moved c.args.p false } in
    edged_rests c.args.clocked.now c.args.p c.args.contents.now c.step_instance.new.contents c.args.store.now next
    (moved_here c.args.store.now c.args.p c.index.result.now _ c.requires.store.moved c.requires.instance c.index.ensures c.if-index.true) c.step_instance.ensures.steps (c.step_instance.ensures.told c.if-step_instance.false)

pub returns-else-step_instance-clause-others : goal.returns-else-step_instance-clause-others
returns-else-step_instance-clause-others c q n =
    let next : Store = record { values = c.args.store.now.values; stale = c.args.store.now.stale; moved = with_item c.args.store.now.moved c.args.p false } in
    moved_other c.args.p q c.args.contents.now c.step_instance.new.contents c.args.store.now next false (c.step_instance.ensures.others q n) refl n

pub returns-else-index-clause-edge : goal.returns-else-index-clause-edge
returns-else-index-clause-edge c =
    edged_quiet c.args.clocked.now c.args.p c.args.contents.now c.args.store.now
    (λ m. not_both m (moved_here c.args.store.now c.args.p c.index.result.now _ c.requires.store.moved c.requires.instance c.index.ensures c.if-index.false))
