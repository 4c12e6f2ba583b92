use Rattle.std.proofs.Common.{◌≡◌, ◌++◌, map, take}
use Rattle.hc_canon.specs.Numbers.{renumbering}
use Rattle.hc_flatten.specs.Flattened.{flat_row}
use Rattle.hc_flatten.proofs.layout.lay_nodes.Given as goal

abbrev pub invariant-rows : goal.invariant-rows
invariant-rows l = l.nodes.items ≡ l.initial.nodes.items ++ map (flat_row l.place (renumbering l.numbers)) (take l.row-index l.rows)
