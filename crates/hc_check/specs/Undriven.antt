-- The wires without a driver among the vertices of a walk.
use Rattle.std.specs.Prelude.{ℕ, List, fold, min, slice_get, Option, Some, None}
use Rattle.hc_signal.specs.declared.signal.NodeRow.{NodeRow}
use Rattle.hc_signal.specs.declared.signal.Node.{Node}
use Rattle.hc_signal.specs.declared.signal.Node.TheVariants.{Wire}
use Rattle.hc_signal.specs.Graph.{Graph}
use Rattle.hc_walk.specs.declared.vertex.VertexId.{VertexId}
use Rattle.hc_walk.specs.declared.vertex.VertexId.TheVariants.{Node as AtNode, Memory, Instance}

-- n, where the row is that of a wire without a driver
abbrev pub undriven_row : Option NodeRow → ℕ → Option ℕ
undriven_row None n = None
undriven_row (Some row) n = at row.node
  where
    at : Node → Option ℕ
    at (Wire None) = Some n
    at other = None

abbrev pub undriven_node : Graph → VertexId → Option ℕ
undriven_node g (AtNode id) = undriven_row (slice_get g.nodes id.0) id.0
undriven_node g (Memory id) = None
undriven_node g (Instance id) = None

abbrev pub lesser : Option ℕ → Option ℕ → Option ℕ
lesser (Some a) (Some b) = Some (min a b)
lesser (Some a) None = Some a
lesser None b = b

abbrev pub least_undriven : Graph → List VertexId → Option ℕ
least_undriven g vertices = fold (λ least vertex. lesser least (undriven_node g vertex)) None vertices
