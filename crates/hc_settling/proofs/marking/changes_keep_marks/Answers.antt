use Rattle.hc_settling.proofs.Changes.{changes_stay}
use Rattle.hc_settling.proofs.marking.changes_keep_marks.Goals as goal

pub returns : goal.returns
returns c = λ t plans old new inputs others vals stale are same marked. changes_stay t old new inputs others vals plans are stale same marked
