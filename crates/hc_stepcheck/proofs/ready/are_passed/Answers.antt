use Rattle.std.proofs.Common.{◌<◌, arith}
use Rattle.hc_steps.proofs.Bits.{bit_below}
use Rattle.hc_stepcheck.proofs.ready.are_passed.Goals as goal

pub returns : goal.returns
returns c = λ t g k h. c.ports.invariant g k (let l : k < 128 = bit_below c.args.needs k 128 c.ranges.needs.fits h in omega (arith, l, c.ports-test.false)) h
