use Rattle.std.proofs.Common.{◌≡◌, ◌≤◌, ◌^◌, lit<, arith, ◌∙◌, sym}
use Rattle.std.proofs.Math.Nat.{pow-le-pow_right}
use Rattle.std.proofs.lemmas.Bool.{le-leb}
use Rattle.hc_signal.proofs.rules.fits_selector.Goals as goal

pub returns-then-width-ge64 : goal.returns-then-width-ge64
returns-then-width-ge64 c =
    let wide : 2 ^ 64 ≤ 2 ^ c.args.width = pow-le-pow_right (lit< tt) c.if-width-ge64.true in
    le-leb 64 c.args.width c.if-width-ge64.true ∙ sym (le-leb c.args.count (2 ^ c.args.width) (omega arith))
