use Rattle.hc_steps.proofs.Bits.{within}
use Rattle.hc_stepcheck.proofs.known.is_within.Goals as goal

pub returns-then-mask-other : goal.returns-then-mask-other
returns-then-mask-other c = λ t. within c.args.mask c.args.other c.if-mask-other.true
