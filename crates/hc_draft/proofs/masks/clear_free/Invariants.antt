use Rattle.std.proofs.Common.{◌≡◌, ◌++◌, drop}
use Rattle.hc_draft.specs.Needs.{cleared}
use Rattle.hc_draft.proofs.masks.clear_free.Given as goal

abbrev pub invariant-each : goal.invariant-each
invariant-each l = l.list.items ++ cleared l.depends l.at (drop l.at l.masks) ≡ cleared l.depends 0 l.masks
