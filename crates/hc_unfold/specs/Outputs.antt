-- The outputs of instances.
use Rattle.std.specs.Prelude.{ℕ, ◌+◌, ◌==◌, ◌&&◌, Bool, false, if◌then◌else◌, List, [], ◌∷◌, slice_get, position, Option, Some, None, Result}
use Rattle.std.specs.Str.{bytes_eq}
use Rattle.hc_fault.specs.declared.fault.FaultKind.{FaultKind}
use Rattle.hc_fault.specs.declared.fault.FaultKind.TheVariants.{UnknownPort}
use Rattle.hc_signal.specs.declared.signal.NodeId.{NodeId}
use Rattle.hc_signal.specs.declared.signal.InstId.{InstId}
use Rattle.hc_signal.specs.declared.signal.Port.{Port}
use Rattle.hc_signal.specs.declared.signal.Instance.{Instance}
use Rattle.hc_signal.specs.declared.signal.Node.{Node}
use Rattle.hc_signal.specs.declared.signal.Node.TheVariants.{InstOut}
use Rattle.hc_signal.specs.declared.signal.NodeRow.{NodeRow}
use Rattle.hc_signal.specs.Graph.{Graph}
use Rattle.hc_unfold.specs.Drawing.{found}

-- the node stands for this output
abbrev pub stands_for : InstId → ℕ → Node → Bool
stands_for i port (InstOut j q) = (j.0 == i.0) && (q == port)
stands_for i port other = false

-- the first of these rows that does, where the first row has the number n
abbrev pub output_from : ℕ → InstId → ℕ → List NodeRow → Option NodeId
output_from n i port [] = None
output_from n i port (row ∷ rows) = if stands_for i port row.node then Some (record { 0 = n }) else output_from (n + 1) i port rows

-- the node of an output of an instance
abbrev pub output_node : Graph → InstId → Option ℕ → Option NodeId
output_node g i None = None
output_node g i (Some port) = output_from 0 i port g.nodes

abbrev pub port_place : List ℕ → List Port → Option ℕ
port_place name ports = position (λ (p : Port). bytes_eq p.name name) ports

abbrev pub output_place : List ℕ → Option Instance → Option ℕ
output_place name None = None
output_place name (Some it) = port_place name it.ports.outputs

-- the node of the output of this name
abbrev pub instance_output : InstId → List ℕ → Graph → Result NodeId FaultKind
instance_output i name g = found UnknownPort (output_node g i (output_place name (slice_get g.instances i.0)))
