use Rattle.std.proofs.Common.{length}
use Rattle.hc_flatten.specs.Sizes.{Reaches}
use Rattle.hc_flatten.specs.Flattened.{kid_trees}
use Rattle.hc_flatten.proofs.size.form_size.Given as goal

abbrev pub invariant-kids : goal.invariant-kids
invariant-kids l = Reaches (length l.form.circuit.nodes) (length l.form.circuit.memories) (kid_trees l.db.entries l.form) l.kid-index l.sum
