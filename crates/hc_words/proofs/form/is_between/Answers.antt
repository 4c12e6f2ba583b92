use Rattle.std.proofs.Common.{sym}
use Rattle.hc_words.proofs.Numbers.{too_large}
use Rattle.hc_words.proofs.form.is_between.Goals as goal

pub returns-in-Err : goal.returns-in-Err
returns-in-Err c =
    too_large c.args.low c.args.high c.args.text.now (sym (c.if-not-is_decimal.ensures)) c.in-Err.ensures.value.0 c.ranges.high.fits
