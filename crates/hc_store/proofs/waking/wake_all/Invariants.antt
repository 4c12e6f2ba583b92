use Rattle.std.proofs.Common.{take}
use Rattle.hc_store.specs.Marks.{AreMoreMarked}
use Rattle.hc_store.proofs.waking.wake_all.Given as goal

abbrev pub invariant-parts : goal.invariant-parts
invariant-parts l = AreMoreMarked l.up l.p (take l.part-index l.parts) l.fn.stale l.stale
