use Rattle.hc_store.proofs.Wakes.{woken_none, woken_then}
use Rattle.hc_store.proofs.waking.wake_all.Goals as goal

pub parts-init : goal.parts-init
parts-init c = woken_none c.args.up.now c.args.p c.args.stale.now

pub parts-preserved : goal.parts-preserved
parts-preserved c = woken_then c.args.up.now c.args.p c.args.parts.now c.parts.part-index c.args.stale.now c.parts.stale c.wake.new.stale c.parts-test.true c.parts.invariant c.wake.ensures
