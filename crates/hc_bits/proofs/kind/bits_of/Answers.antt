use Rattle.std.proofs.Common.{◌-◌, ◌≤◌, arith, rules}
use Rattle.std.proofs.Math.Pow.{pow_mono}
use Rattle.std.specs.Int.Count.{count_leading_zeros}
use Rattle.hc_bits.proofs.Lengths.{bits_of-length, length_least, length_from_zeros}
use Rattle.hc_bits.proofs.kind.bits_of.Goals as goal

pub returns-clause-value : goal.returns-clause-value
returns-clause-value c =
    let len = length_from_zeros c.args.number (search rules) in
    omega (arith, bits_of-length c.args.number _ len)

pub returns-clause-fits : goal.returns-clause-fits
returns-clause-fits c =
    let len = length_from_zeros c.args.number (search rules) in
    let more : 64 - count_leading_zeros 64 c.args.number ≤ c.max.result = omega arith in
    omega (arith, len.fits, pow_mono more)

pub returns-clause-least : goal.returns-clause-least
returns-clause-least c = λ k some below.
    let len = length_from_zeros c.args.number (search rules) in
    omega (arith, length_least c.args.number _ k len below)
