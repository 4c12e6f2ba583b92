use Rattle.hc_dbstate.proofs.Marks.{AreUsesAbove}
use Rattle.hc_dbstate.proofs.used.used_entries.Given as goal

abbrev pub invariant-loop-place : goal.invariant-loop-place
invariant-loop-place l = AreUsesAbove l.db.entries l.fn.top l.marks.items l.place

abbrev pub decreases-loop-place : goal.decreases-loop-place
decreases-loop-place l = l.place
