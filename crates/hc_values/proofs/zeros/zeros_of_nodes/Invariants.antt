use Rattle.std.proofs.Common.{◌≡◌, take, map}
use Rattle.hc_signal.specs.declared.signal.NodeRow.{NodeRow}
use Rattle.hc_values.specs.Rows.{zero_of}
use Rattle.hc_values.proofs.zeros.zeros_of_nodes.Given as goal

abbrev pub invariant-rows : goal.invariant-rows
invariant-rows l = l.values.items ≡ map (λ (row : NodeRow). zero_of row.width) (take l.row-index l.rows)
