use Rattle.std.proofs.Common.{sym, ◌∙◌}
use Rattle.std.proofs.lemmas.Result.{IfOk-weaker}
use Rattle.hc_cli.proofs.DueLaws.{read_for_input, read_for_workload}
use Rattle.hc_cli.proofs.read.read_for.Goals as goal

pub returns-then-reads_input-clause-read : goal.returns-then-reads_input-clause-read
returns-then-reads_input-clause-read g c = IfOk-weaker c.read_input.result _ _ (λ r is. read_for_input c.args.job.now _ r (sym c.reads_input.ensures ∙ c.if-reads_input.true) is)
    c.read_input.ensures.read

pub returns-else-reads_input-clause-read : goal.returns-else-reads_input-clause-read
returns-else-reads_input-clause-read g c = IfOk-weaker c.read_workload.result _ _
    (λ r is. read_for_workload c.args.job.now _ r (sym c.reads_input.ensures ∙ c.if-reads_input.false) is) c.read_workload.ensures.read
