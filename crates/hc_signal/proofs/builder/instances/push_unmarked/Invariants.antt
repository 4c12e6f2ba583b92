use Rattle.std.proofs.Common.{◌≡◌, ◌+◌, ◌++◌, false, replicate, vec_len, vec_capacity}
use Rattle.hc_signal.proofs.builder.instances.push_unmarked.Given as goal

abbrev pub invariant-loop : goal.invariant-loop
invariant-loop l = record {
  marks : l.marks.items ≡ l.fn.marks.items ++ replicate l.counter false;
  longer : vec_len l.marks ≡ vec_len l.fn.marks + l.counter;
  room : vec_capacity l.marks ≡ vec_capacity l.fn.marks;
}
