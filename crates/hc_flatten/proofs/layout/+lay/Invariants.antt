use Rattle.std.proofs.Common.{◌≡◌, ◌++◌}
use Rattle.std.specs.Prelude.{slice_get}
use Rattle.hc_flatten.specs.Flattened.{joined}
use Rattle.hc_flatten.proofs.Laying.{kid_nodes, kid_memories}
use Rattle.hc_flatten.proofs.layout.+lay.Given as goal

abbrev pub decreases-lay : goal.decreases-lay
decreases-lay l = l.entry.0

abbrev pub invariant-kids : goal.invariant-kids
invariant-kids l = record {
  nodes : l.laid.nodes.items ≡ l.initial.laid.nodes.items ++ joined (λ i. kid_nodes l.db.entries (slice_get l.kid-items i)) l.kid-index;
  memories : l.laid.memories.items ≡ l.initial.laid.memories.items ++ joined (λ i. kid_memories l.db.entries (slice_get l.kid-items i)) l.kid-index;
}
