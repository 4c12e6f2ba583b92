use Rattle.std.proofs.Common.{◌+◌, length}
use Rattle.hc_flatten.specs.Sizes.{Reaches}
use Rattle.hc_flatten.specs.Flattened.{kid_trees}
use Rattle.hc_flatten.proofs.Starts.{AreFirstStarts}
use Rattle.hc_flatten.proofs.layout.starts.Given as goal

abbrev pub invariant-kids : goal.invariant-kids
invariant-kids l = record {
  next : Reaches (l.place.nodes + length l.form.circuit.nodes) (l.place.memories + length l.form.circuit.memories) (kid_trees l.db.entries l.form) l.kid-index l.next;
  made : AreFirstStarts l.place l.form l.db.entries l.made.items l.kid-index;
}
