use Rattle.std.proofs.Common.{ℕ, subst}
use Rattle.hc_signal.specs.Occurrences.{Occurrence}
use Rattle.hc_settling.specs.Known.{AreMarked}
use Rattle.hc_store.specs.Scene.{mark, number}
use Rattle.hc_edges.proofs.Kept.{all_shown, off_below, same_numbers_now, same_state, still_off}
use Rattle.hc_edges.proofs.laws.edges_keep_marks.Goals as goal

pub returns-clause-marks : goal.returns-clause-marks
returns-clause-marks c = λ clocked old new store next s state all after fits fit wakes marked.
    let more = c.puts_keep_marks.ensures.more s.tree s.plans s.state s.inputs (number s store.values) (mark s store.stale) (mark s next.stale)
    (still_off clocked old new store next s state all after fits fit wakes) (off_below clocked old new store next s state all after fits fit wakes) marked in
    let changed = c.changes_keep_marks.ensures s.tree s.plans s.state state s.inputs s.inputs (number s store.values) (mark s next.stale) all.plans (same_state clocked old new store next s state all after fits fit wakes) more in
    subst (λ (v : Occurrence → ℕ). AreMarked s.tree s.plans state s.inputs v (mark s next.stale)) (same_numbers_now clocked old new store next s state all after fits fit wakes) changed

pub returns-clause-shows : goal.returns-clause-shows
returns-clause-shows c = λ clocked old new s state all after. all_shown clocked old new s state all after
