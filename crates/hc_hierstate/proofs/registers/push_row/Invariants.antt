use Rattle.std.proofs.Common.{◌≡◌, [], ◌∷◌, ◌++◌, map, take}
use Rattle.hc_signal.specs.declared.signal.NodeRow.{NodeRow}
use Rattle.hc_values.specs.Rows.{zero_of}
use Rattle.hc_values.specs.Edges.{initial_of}
use Rattle.hc_hierstate.proofs.registers.push_row.Given as goal

abbrev pub invariant-nodes : goal.invariant-nodes
invariant-nodes l = l.rows ≡ l.fn.rows ++ map (λ (row : NodeRow). initial_of row.node (zero_of row.width)) (take l.node-index l.nodes) ∷ []
