use Rattle.std.proofs.Common.{◌∙◌, sym, arith}
use Rattle.std.proofs.lemmas.Result.{err_from_is_err_and}
use Rattle.hc_tokens.proofs.NumbersFound.{chain-goes, chain-fails, stops_with}
use Rattle.hc_tokens.proofs.numbers.+number.Goals as goal

pub product-returns-in_err-other : goal.product-returns-in_err-other
product-returns-in_err-other n c =
    let p = err_from_is_err_and c.from_residual-in_err-other.result c.from_residual-in_err-other.ensures.1 in
    rw (p.1, p.2) (stops_with _ _ _ (λ none. c.loop-op.invariant.1 ∙ chain-fails _ _ _ _ _ _ _ c.if-left-eq0.false (sym c.in-Some.ensures) none) c.in_err-other.ensures)

pub product-loop-op-preserved : goal.product-loop-op-preserved
product-loop-op-preserved n c = rw (c.in_ok-new.ensures, c.in_ok-new-2.ensures) (omega (arith, c.loop-op.invariant.0), c.loop-op.invariant.1 ∙ chain-goes _ _ _ _ _ _ _ _ _ c.if-left-eq0.false (sym c.in-Some.ensures) c.in_ok-other.ensures)

pub sum-returns-in_err-other : goal.sum-returns-in_err-other
sum-returns-in_err-other n c =
    let p = err_from_is_err_and c.from_residual-in_err-other.result c.from_residual-in_err-other.ensures.1 in
    rw (p.1, p.2) (stops_with _ _ _ (λ none. c.loop-op.invariant.1 ∙ chain-fails _ _ _ _ _ _ _ c.if-left-eq0.false (sym c.in-Some.ensures) none) c.in_err-other.ensures)

pub sum-loop-op-preserved : goal.sum-loop-op-preserved
sum-loop-op-preserved n c = rw (c.in_ok-new.ensures, c.in_ok-new-2.ensures) (omega (arith, c.loop-op.invariant.0), c.loop-op.invariant.1 ∙ chain-goes _ _ _ _ _ _ _ _ _ c.if-left-eq0.false (sym c.in-Some.ensures) c.in_ok-other.ensures)
