use Rattle.std.proofs.Common.{◌≡◌, ◌+◌, ◌-◌, ◌≤◌, ◌++◌, replicate, vec_len, vec_capacity}
use Rattle.hc_rows.proofs.rows.extend.Given as goal

abbrev pub invariant-copies : goal.invariant-copies
invariant-copies g l = (l.items.items ≡ l.fn.items.items ++ replicate l.counter l.x) × (vec_len l.items + (l.count - l.counter) ≤ vec_capacity l.items)
