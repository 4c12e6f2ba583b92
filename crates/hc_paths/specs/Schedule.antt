-- An order in which the nodes of a circuit can be computed.
use Rattle.std.specs.Prelude.{◌≡◌, ℕ, ◌<◌, ◌↔◌, List, slice_get, Some}
use Rattle.hc_signal.specs.Member.{Has}
use Rattle.hc_signal.specs.declared.signal.NodeId.{NodeId}
use Rattle.hc_signal.specs.declared.signal.Node.{Node}
use Rattle.hc_signal.specs.Graph.{Graph, node, Reached}
use Rattle.hc_signal.specs.Lawful.{NodeAt}
use Rattle.hc_signal.specs.Occurrences.{comb_fanin}

-- The nodes that the outputs reach, and no others, each once, and each after its operands of the same cycle.
pub record IsSchedule (g : Graph) (order : List NodeId) : Type 0 where
  pub all : (id : NodeId) → Has order id ↔ Reached g (node id.0)
  pub once : (i j : ℕ) (id : NodeId) → slice_get order i ≡ Some id → slice_get order j ≡ Some id → i ≡ j
  pub after : (i : ℕ) (id operand : NodeId) (x : Node) → slice_get order i ≡ Some id → NodeAt g id.0 x → Has (comb_fanin x) operand → (j : ℕ) × (j < i) × (slice_get order j ≡ Some operand)
