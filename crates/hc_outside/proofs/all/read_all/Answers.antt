use Rattle.std.proofs.KnownBytes.{Consumes-trans}
use Rattle.hc_outside.proofs.all.read_all.Goals as goal

-- the bytes that the vector had no memory for were given too
pub returns-then-is_err-clause-given : goal.returns-then-is_err-clause-given
returns-then-is_err-clause-given g c = (_, Consumes-trans _ _ _ _ _ c.loop-count.invariant.so_far c.in-Ok.ensures.bytes.1, tt)
