use Rattle.std.proofs.Common.{ap, sym, subst}
use Rattle.std.specs.Prelude.{Err}
use Rattle.hc_fault.specs.declared.fault.Fault.{Fault}
use Rattle.hc_cli.specs.Read.{IsReadFrom}
use Rattle.hc_cli.specs.declared.read.Read.TheVariants as reads
use Rattle.hc_cli.proofs.DueLaws.{long_ends, long_read}
use Rattle.hc_cli.proofs.read.read_input.Goals as goal

pub returns-in-Err-TooLong-clause-read : goal.returns-in-Err-TooLong-clause-read
returns-in-Err-TooLong-clause-read g c =
    subst (λ (f : Fault). IsReadFrom (g.S.Source.left c.args.input.now) (reads.Faulty f)) (sym c.too_long.ensures)
    (long_read _ (c.in-Err-TooLong.ensures.long (ap (λ e. Err e) c.in-Err-TooLong.field-0-is)))

pub returns-in-Err-TooLong-clause-end : goal.returns-in-Err-TooLong-clause-end
returns-in-Err-TooLong-clause-end g c = long_ends _ _ (c.in-Err-TooLong.ensures.long (ap (λ e. Err e) c.in-Err-TooLong.field-0-is))
