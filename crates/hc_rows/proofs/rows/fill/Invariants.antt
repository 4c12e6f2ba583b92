use Rattle.std.proofs.Common.{◌≡◌, ◌++◌, take, drop, map}
use Rattle.hc_rows.proofs.rows.fill.Given as goal

abbrev pub invariant-items : goal.invariant-items
invariant-items g l = l.items ≡ map (λ _. l.x) (take l.item-index l.fn.items) ++ drop l.item-index l.fn.items
