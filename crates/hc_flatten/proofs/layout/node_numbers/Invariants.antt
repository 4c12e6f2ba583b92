use Rattle.std.proofs.Common.{◌≡◌, take}
use Rattle.hc_flatten.specs.Flattened.{kid_trees, numbers_from}
use Rattle.hc_flatten.proofs.layout.node_numbers.Given as goal

abbrev pub invariant-rows : goal.invariant-rows
invariant-rows l = l.made.items ≡ numbers_from l.place l.form.circuit (kid_trees l.db.entries l.form) 0 (take l.n l.form.circuit.nodes)
