use Rattle.std.proofs.Common.{subst}
use Rattle.hc_cli.specs.Histories.{IsHistoryInOrder}
use Rattle.hc_cli.specs.Read.{IsReadFor}
use Rattle.hc_cli.specs.declared.read.Read.{Read}
use Rattle.hc_cli.proofs.DueLaws.{told_input}
use Rattle.hc_cli.proofs.Kept.{no_calls_in_order}
use Rattle.hc_cli.proofs.one.prepare_text.Goals as goal

pub returns-in-Ok-Faulty-clause-due : goal.returns-in-Ok-Faulty-clause-due
returns-in-Ok-Faulty-clause-due g c =
    told_input IsHistoryInOrder no_calls_in_order c.args.job.now _ c.in-Ok-Faulty.fault
    (subst (λ (r : Read). IsReadFor c.args.job.now (g.S.Source.left c.args.input.now) r) c.in-Ok-Faulty.field-0-is c.in-Ok-Faulty.ensures.read)
