-- The circuit in the numbering of its walk.
use Rattle.std.specs.Prelude.{◌≡◌, ℕ, suc, ◌+◌, List, [], ◌∷◌, ◌++◌, map, length, slice_get, option_map, option_to_list, Some}
use Rattle.hc_signal.specs.declared.signal.Port.{Port}
use Rattle.hc_signal.specs.declared.signal.NodeRow.{NodeRow}
use Rattle.hc_signal.specs.declared.signal.Node.TheVariants.{Input}
use Rattle.hc_signal.specs.Graph.{Graph, Vertex}
use Rattle.hc_signal.specs.Lawful.{NodeAt}
use Rattle.hc_signal.specs.Renumber.{Renumbering, id_by, row_by, memory_by, instance_by}
use Rattle.hc_canon.specs.Numbering.{input_row, nodes_met, memories_met, instances_met}

-- the rows of the input ports, from place k on
abbrev pub input_rows : ℕ → List Port → List NodeRow
input_rows k [] = []
input_rows k (p ∷ ps) = input_row p k ∷ input_rows (suc k) ps

-- f of the elements at these places
abbrev pub picked : {X : Type 0} → (X → X) → List X → List ℕ → List X
picked f xs [] = []
picked f xs (n ∷ ns) = option_to_list (option_map f (slice_get xs n)) ++ picked f xs ns

-- the graph in the order of the walk, with new numbers
abbrev pub laid_out : Graph → List Vertex → Renumbering → Graph
laid_out g end to = record {
  ports = g.ports;
  outputs = map (id_by to) g.outputs;
  nodes = input_rows 0 g.ports.inputs ++ picked (row_by to) g.nodes (nodes_met g end);
  memories = picked (memory_by to) g.memories (memories_met end);
  instances = picked (instance_by to) g.instances (instances_met end);
}

-- The new numbers follow the walk: an input has the number of its port, and what was met is counted.
pub record AreNumbers (g : Graph) (end : List Vertex) (to : Renumbering) : Type 0 where
  pub inputs : (n k : ℕ) → NodeAt g n (Input k) → to.node n ≡ k
  pub nodes : (i n : ℕ) → slice_get (nodes_met g end) i ≡ Some n → to.node n ≡ length g.ports.inputs + i
  pub memories : (i m : ℕ) → slice_get (memories_met end) i ≡ Some m → to.mem m ≡ i
  pub instances : (i k : ℕ) → slice_get (instances_met end) i ≡ Some k → to.inst k ≡ i
