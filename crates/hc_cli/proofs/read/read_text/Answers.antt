use Rattle.std.proofs.Common.{[], arith, sym, subst}
use Rattle.std.specs.Prelude.{Err}
use Rattle.hc_fault.specs.declared.fault.Fault.{Fault}
use Rattle.hc_fault.specs.declared.fault.Refused.{Refused}
use Rattle.hc_lang.specs.Reads.{Answers}
use Rattle.hc_cli.proofs.DueLaws.{faulty_read}
use Rattle.hc_cli.specs.Due.{IsTextDue, parsed, told, too_long}
use Rattle.hc_cli.proofs.read.read_text.Goals as goal

pub returns-then-text-gt-LIMIT-clause-read : goal.returns-then-text-gt-LIMIT-clause-read
returns-then-text-gt-LIMIT-clause-read c = λ job. subst (λ (f : Fault). IsTextDue job c.args.text.now (told f [])) (sym c.too_long.ensures) (too_long c.if-text-gt-LIMIT.true)

pub returns-in-Ok-clause-read : goal.returns-in-Ok-clause-read
returns-in-Ok-clause-read c = λ job due is. parsed c.in-Ok.design (omega (arith, c.if-text-gt-LIMIT.false)) c.in-Ok.ensures is

pub returns-in-Err-Fault-clause-read : goal.returns-in-Err-Fault-clause-read
returns-in-Err-Fault-clause-read c = faulty_read c.args.text.now c.in-Err-Fault.fault (omega (arith, c.if-text-gt-LIMIT.false))
    (subst (λ (r : Refused). Answers c.args.text.now (Err r)) c.in-Err-Fault.field-0-is c.in-Err-Fault.ensures)
