use Rattle.std.proofs.Common.{◌≡◌, ℕ, ◌≤◌, ◌-◌, [], length}
use Rattle.hc_naming.specs.NameTable.{name_at}
use Rattle.hc_naming.proofs.naming.empty_slots.Given as goal

-- the slots so far are empty
abbrev pub invariant-loop-slots : goal.invariant-loop-slots
invariant-loop-slots l = record { few : length l.slots.items ≤ l.len; empty : (k : ℕ) → name_at l.slots.items k ≡ [] }

abbrev pub decreases-loop-slots : goal.decreases-loop-slots
decreases-loop-slots l = l.len - length l.slots.items
