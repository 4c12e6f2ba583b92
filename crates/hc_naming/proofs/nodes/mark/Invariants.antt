use Rattle.std.proofs.Common.{◌≡◌, ℕ, ◌==◌, ◌||◌, drop, length}
use Rattle.std.specs.List.{list_any}
use Rattle.hc_signal.specs.declared.signal.NodeId.{NodeId}
use Rattle.hc_naming.specs.NameTable.{mark_at}
use Rattle.hc_naming.proofs.nodes.mark.Given as goal

-- the marks so far and the rest of the nodes are all
abbrev pub invariant-loop-id : goal.invariant-loop-id
invariant-loop-id l = record {
  same : length l.marks.items ≡ length l.initial.marks.items;
  right : (n : ℕ) → (mark_at l.marks.items n || list_any (λ (id : NodeId). id.0 == n) (drop l.id-index l.ids)) ≡ (mark_at l.initial.marks.items n || list_any (λ (id : NodeId). id.0 == n) l.ids);
}
