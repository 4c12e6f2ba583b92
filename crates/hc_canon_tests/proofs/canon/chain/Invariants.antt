use Rattle.std.proofs.Common.{◌<◌, length}
use Rattle.hc_canon_tests.proofs.canon.chain.Given as goal

abbrev pub invariant-links : goal.invariant-links
invariant-links g l = record {
  last : l.last.0 < length l.builder.nodes;
  x : l.x.0 < length l.builder.nodes;
}
