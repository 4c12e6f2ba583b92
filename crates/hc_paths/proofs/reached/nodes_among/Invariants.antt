use Rattle.std.proofs.Common.{◌≡◌, ◌++◌, drop}
use Rattle.hc_paths.specs.Order.{nodes_among}
use Rattle.hc_paths.proofs.reached.nodes_among.Given as goal

abbrev pub invariant-vertices : goal.invariant-vertices
invariant-vertices l = l.ids.items ++ nodes_among (drop l.vertex-index l.vertices) ≡ nodes_among l.vertices
