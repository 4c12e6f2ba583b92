use Rattle.std.proofs.Common.{◌≡◌, ◌+◌, drop}
use Rattle.hc_weights.specs.Weights.{weight_where}
use Rattle.hc_weights.proofs.entries.marked_weight.Given as goal

abbrev pub invariant-entries : goal.invariant-entries
invariant-entries l = l.sum + weight_where (drop l.place l.marks) (drop l.place l.db.entries) ≡ weight_where l.marks l.db.entries
