use Rattle.std.proofs.Common.{◌≡◌, ◌+◌, ◌++◌, drop, vec_len, vec_capacity}
use Rattle.hc_signal.specs.Builds.{output_rows}
use Rattle.hc_signal.proofs.builder.instances.push_outputs.Given as goal

-- the rows so far, with those that are left, are all of them
abbrev pub invariant-loop-at : goal.invariant-loop-at
invariant-loop-at l = record {
  rows : l.nodes.items ++ output_rows l.inst.0 l.at (drop l.at l.ports) ≡ l.fn.nodes.items ++ output_rows l.inst.0 0 l.ports;
  longer : vec_len l.nodes ≡ vec_len l.fn.nodes + l.at;
  room : vec_capacity l.nodes ≡ vec_capacity l.fn.nodes;
}
