-- The numbering that follows the depth-first walk from the outputs.
use Rattle.std.specs.Prelude.{◌≡◌, ℕ, zero, suc, ◌-◌, ◌≤◌, List, [], ◌∷◌, ◌++◌, length, slice_get, Option, Some, None}
use Rattle.hc_signal.specs.declared.signal.NodeRow.{NodeRow}
use Rattle.hc_signal.specs.declared.signal.Port.{Port}
use Rattle.hc_signal.specs.declared.signal.Node.{Node}
use Rattle.hc_signal.specs.declared.signal.Node.TheVariants.{Input}
use Rattle.hc_signal.specs.Graph.{Graph, Vertex, node, mem, inst}
use Rattle.hc_walk.specs.DepthFirst.{NumbersTo}

-- what takes a number: a node that is no input
abbrev pub counted : Option NodeRow → ℕ → List ℕ
counted None n = n ∷ []
counted (Some row) n = at row.node
  where
    at : Node → List ℕ
    at (Input port) = []
    at other = n ∷ []

abbrev pub nodes_met : Graph → List Vertex → List ℕ
nodes_met g [] = []
nodes_met g (node n ∷ ps) = counted (slice_get g.nodes n) n ++ nodes_met g ps
nodes_met g (mem m ∷ ps) = nodes_met g ps
nodes_met g (inst i ∷ ps) = nodes_met g ps

abbrev pub memories_met : List Vertex → List ℕ
memories_met [] = []
memories_met (mem m ∷ ps) = m ∷ memories_met ps
memories_met (node n ∷ ps) = memories_met ps
memories_met (inst i ∷ ps) = memories_met ps

abbrev pub instances_met : List Vertex → List ℕ
instances_met [] = []
instances_met (inst i ∷ ps) = i ∷ instances_met ps
instances_met (node n ∷ ps) = instances_met ps
instances_met (mem m ∷ ps) = instances_met ps

-- n numbers, from a on
abbrev pub count_from : ℕ → ℕ → List ℕ
count_from a zero = []
count_from a (suc n) = a ∷ count_from (suc a) n

abbrev pub input_row : Port → ℕ → NodeRow
input_row p k = record { width = p.width; node = Input k; label = None }

-- The input nodes stand first. The walk meets every other row, each in the order in which it stands.
pub record IsCanonical (g : Graph) : Type 0 where
  pub end : List Vertex
  pub walk : NumbersTo g end
  pub inputs : (k : ℕ) (p : Port) → slice_get g.ports.inputs k ≡ Some p → slice_get g.nodes k ≡ Some (input_row p k)
  pub nodes : (length g.ports.inputs ≤ length g.nodes) × (nodes_met g end ≡ count_from (length g.ports.inputs) (length g.nodes - length g.ports.inputs))
  pub memories : memories_met end ≡ count_from 0 (length g.memories)
  pub instances : instances_met end ≡ count_from 0 (length g.instances)
