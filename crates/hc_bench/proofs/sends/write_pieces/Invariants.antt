use Rattle.std.proofs.Common.{◌≤◌, drop, flat_map}
use Rattle.hc_bench.proofs.Pieces.{QueuesUpTo}
use Rattle.hc_bench.proofs.sends.write_pieces.Given as goal

abbrev pub invariant-pieces : goal.invariant-pieces
invariant-pieces g l = record {
  so_far : QueuesUpTo (g.K.Sink.taken l.initial.to) (g.K.Sink.taken l.to) l.initial.waiting l.waiting (flat_map (λ p. p.now) l.pieces) (flat_map (λ p. p.now) (drop l.piece-index l.pieces));
  never_falls : g.K.Sink.faults l.initial.to ≤ g.K.Sink.faults l.to;
}
