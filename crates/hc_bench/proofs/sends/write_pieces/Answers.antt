use Rattle.std.proofs.Common.{arith, flat_map}
use Rattle.std.proofs.lemmas.List.{at_drop_more}
use Rattle.hc_bench.proofs.Pieces.{loop_none, loop_cut, loop_more}
use Rattle.hc_bench.proofs.sends.write_pieces.Goals as goal

pub pieces-init : goal.pieces-init
pieces-init g c = record { so_far = loop_none _ _ _; never_falls = omega arith }

pub returns-in_err-write : goal.returns-in_err-write
returns-in_err-write g c =
    loop_cut _ _ _ _ _ _ _ _ _ _ _ _ _ c.from_residual.result c.from_residual.ensures.0 c.pieces.invariant.so_far c.pieces.invariant.never_falls
    (at_drop_more (flat_map (λ p. p.now)) c.args.pieces.now c.pieces.piece-index _ c.pieces-test.true)
    c.in_err-write.ensures.front c.in_err-write.ensures.cause.never_falls c.in_err-write.ensures.cause.failed

pub pieces-preserved : goal.pieces-preserved
pieces-preserved g c = record {
  so_far = loop_more _ _ _ _ _ _ _ _ _ _ c.pieces.invariant.so_far (at_drop_more (flat_map (λ p. p.now)) c.args.pieces.now c.pieces.piece-index _ c.pieces-test.true) c.in_ok-write.ensures.all;
  never_falls = omega (arith, c.pieces.invariant.never_falls, c.in_ok-write.ensures.cause.never_falls);
}
