use Rattle.std.proofs.Common.{Bool, true, List, length, slice_set, ap, ◌∙◌}
use Rattle.std.specs.Vec.{with_item}
use Rattle.hc_store.specs.declared.store.Store.{Store}
use Rattle.hc_store.proofs.Wakes.{set_length}
use Rattle.hc_edges.proofs.Edged.{moved_other}
use Rattle.hc_edges.proofs.Initial.{now_moved, reset_changed}
use Rattle.hc_edges.proofs.Woken.{store_woken, wakes_one}
use Rattle.hc_edges.proofs.resets.reset_at.Goals as goal

pub returns-then-reset_instance-clause-store : goal.returns-then-reset_instance-clause-store
returns-then-reset_instance-clause-store c =
    let i = c.requires.fit.instances c.args.p c.requires.instance in
    let woken : Store = c.wake_readers.new.store in
    let next : Store = record { values = woken.values; stale = woken.stale; moved = with_item woken.moved c.args.p true } in
    store_woken c.args.clocked.now c.args.p c.args.contents.now c.reset_instance.new.contents c.args.store.now next c.wake_readers.ensures.values c.reset_instance.ensures.others c.wake_readers.ensures.marks
    i.0 i.1 i.2 i.3 (set_length woken.moved.items c.args.p true ∙ ap length c.wake_readers.ensures.moved) c.requires.store

pub returns-then-reset_instance-clause-reset : goal.returns-then-reset_instance-clause-reset
returns-then-reset_instance-clause-reset c =
    let woken : Store = c.wake_readers.new.store in
    let next : Store = record { values = woken.values; stale = woken.stale; moved = with_item woken.moved c.args.p true } in
    reset_changed c.args.clocked.now c.args.p c.args.contents.now c.reset_instance.new.contents c.args.store.now next
    (now_moved c.args.clocked.now c.args.p c.args.contents.now c.args.store.now next c.requires.store c.requires.instance (ap (λ (ms : List Bool). slice_set ms c.args.p true) c.wake_readers.ensures.moved)) c.reset_instance.ensures.resets

pub returns-then-reset_instance-clause-others : goal.returns-then-reset_instance-clause-others
returns-then-reset_instance-clause-others c q n =
    let woken : Store = c.wake_readers.new.store in
    let next : Store = record { values = woken.values; stale = woken.stale; moved = with_item woken.moved c.args.p true } in
    moved_other c.args.p q c.args.contents.now c.reset_instance.new.contents c.args.store.now next true (c.reset_instance.ensures.others q n) (ap (λ (ms : List Bool). slice_set ms c.args.p true) c.wake_readers.ensures.moved) n

pub returns-then-reset_instance-clause-marks : goal.returns-then-reset_instance-clause-marks
returns-then-reset_instance-clause-marks c =
    let i = c.requires.fit.instances c.args.p c.requires.instance in
    let woken : Store = c.wake_readers.new.store in
    let next : Store = record { values = woken.values; stale = woken.stale; moved = with_item woken.moved c.args.p true } in
    wakes_one c.args.clocked.now c.args.p c.args.contents.now c.reset_instance.new.contents c.args.store.now next c.wake_readers.ensures.values c.reset_instance.ensures.others c.wake_readers.ensures.marks
    i.0 i.1 i.2 i.3
