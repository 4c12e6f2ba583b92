-- What a builder keeps beside its graph.
use Rattle.std.specs.Prelude.{◌≡◌, ℕ, ◌+◌, ◌<◌, ◌≤◌, Bool, List, length, slice_get, Some}
use Rattle.hc_signal.specs.declared.signal.Instance.{Instance}
use Rattle.hc_signal.specs.declared.signal.Node.TheVariants.{InstOut}
use Rattle.hc_signal.specs.Graph.{Graph}
use Rattle.hc_signal.specs.Weight.{graph_weight}
use Rattle.hc_signal.specs.Builds.{is_output}
use Rattle.hc_signal.specs.Lawful.{IsLawful, NodeAt}

-- its outputs have nodes from this one on
abbrev pub HasOutputsFrom : Graph → ℕ → Instance → ℕ → Type 0
HasOutputsFrom g i it first = (k : ℕ) → k < length it.ports.outputs → NodeAt g (first + k) (InstOut (record { 0 = i }) k)

-- The weight, a mark for each node that is the wire of an output, and the first output node of each instance.
pub record IsKept (g : Graph) (weight : ℕ) (marks : List Bool) (firsts : List ℕ) : Type 0 where
  pub lawful : IsLawful g
  pub total : weight ≡ graph_weight g
  pub marked : length marks ≡ length g.nodes
  pub wires : (n : ℕ) → n < length g.nodes → slice_get marks n ≡ Some (is_output g n)
  pub counted : length firsts ≡ length g.instances
  pub first_nodes : (i : ℕ) (it : Instance) → slice_get g.instances i ≡ Some it → (first : ℕ) × (slice_get firsts i ≡ Some first) × HasOutputsFrom g i it first
  pub few_ports : length g.ports.inputs + length g.ports.outputs ≤ length g.nodes
