use Rattle.std.proofs.Common.{◌≡◌, ◌++◌}
use Rattle.std.specs.Vec.Iter.{into_iter_items}
use Rattle.hc_lang.specs.Found.{found}
use Rattle.hc_lang.specs.Structure as s
use Rattle.hc_lang.proofs.structure.outlined.Given as goal

-- the outline is that of the rows so far, and the others are left
abbrev pub invariant-row : goal.invariant-row
invariant-row l = (s.steps l.most s.start l.yielded ≡ found l.outline) × (l.yielded ++ into_iter_items l.number-iterator ≡ l.fn.rows)
