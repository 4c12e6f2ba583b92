use Rattle.std.proofs.Common.{arith}
use Rattle.hc_outside.proofs.Sent.{sent_more}
use Rattle.hc_outside.proofs.all.write_all.Goals as goal

pub loop-rest-preserved : goal.loop-rest-preserved
loop-rest-preserved g c = record {
  so_far = sent_more _ _ _ _ _ _ _ c.loop-rest.invariant.so_far c.split_at.ensures.back c.in_ok-count.ensures.bytes.2;
  never_falls = omega (arith, c.in_ok-count.ensures.cause.never_falls);
}
