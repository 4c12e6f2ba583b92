use Rattle.std.proofs.Common.{◌≡◌, suc, length, arith, ap}
use Rattle.hc_values.proofs.Arms.{nonempty, rest_fits, rest_within, first_within}
use Rattle.hc_values.proofs.operands.+cat.Goals as goal

pub operand-high-requires-clause-within : goal.operand-high-requires-clause-within
operand-high-requires-clause-within t c = first_within c.args.circuit.now c.args.parts.now c.in-Some.first.now c.in-Some.rest.now c.in-Some.ensures.cases.0 c.requires.within

pub cat-requires : goal.cat-requires
cat-requires t c =
    let e : length c.args.parts.now ≡ suc (length c.in-Some.rest.now) = ap length c.in-Some.ensures.cases.0 in (
      omega (arith, e, c.decreases),
      (
        c.requires.values,
        (
          nonempty (length c.in-Some.rest.now) c.is_empty.result c.is_empty.ensures c.if-is_empty.false,
          (
            rest_within c.args.circuit.now c.args.parts.now c.in-Some.first.now c.in-Some.rest.now c.in-Some.ensures.cases.0 c.requires.within,
            rest_fits c.args.circuit.now c.args.values.now c.args.parts.now c.in-Some.first.now c.in-Some.rest.now c.in-Some.ensures.cases.0 c.requires.fits,
          ),
        ),
      ),
    )
