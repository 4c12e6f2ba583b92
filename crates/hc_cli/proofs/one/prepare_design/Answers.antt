use Rattle.std.proofs.Common.{subst}
use Rattle.std.proofs.lemmas.Result.{IfOk-weaker}
use Rattle.hc_dbstate.specs.History.{History}
use Rattle.hc_plan.specs.Hierarchies.{LogsDistinct}
use Rattle.hc_cli.specs.Histories.{IsHistoryInOrder}
use Rattle.hc_cli.proofs.DueLaws.{by_rule, serves_broken}
use Rattle.hc_cli.proofs.Kept.{no_calls_in_order}
use Rattle.hc_cli.proofs.one.prepare_design.Goals as goal

pub returns-in-Err : goal.returns-in-Err
returns-in-Err c = serves_broken IsHistoryInOrder no_calls_in_order c.args.job.now c.args.design.now c.in-Err.refused c.told.result c.in-Err.ensures.fault c.told.ensures

pub returns-in-Ok : goal.returns-in-Ok
returns-in-Ok c =
    let db = c.elab_one.new.db in
    let legal = c.legal.ensures in
    let e = c.in-Ok.ensures.hierarchy in
    let logs = subst (λ (h : History). LogsDistinct h db e.0) c.new-db.ensures e.3 in
    let law = c.elaborations_have_histories.ensures in
    let called = law.called db c.in-Ok.hier e.0 legal e.2 logs in
    let history = law.history db c.in-Ok.hier e.0 legal e.2 logs in
    IfOk-weaker c.prepare_elaborated.result _ _ (λ p s. by_rule IsHistoryInOrder c.args.job.now c.args.design.now p db e.0.calls (s e.0 e.1 e.2 called) history) c.prepare_elaborated.ensures
