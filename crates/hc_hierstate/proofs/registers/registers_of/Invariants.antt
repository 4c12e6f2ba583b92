use Rattle.std.proofs.Common.{◌≡◌, map}
use Rattle.std.specs.List.{filter, range_with_len}
use Rattle.hc_hierstate.specs.States.{is_register_at, node_id}
use Rattle.hc_hierstate.proofs.registers.registers_of.Given as goal

abbrev pub invariant-nodes : goal.invariant-nodes
invariant-nodes l = l.ids.items ≡ filter (is_register_at l.circuit) (map node_id (range_with_len 0 l.n))
