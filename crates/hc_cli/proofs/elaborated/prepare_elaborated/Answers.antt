use Rattle.std.proofs.Common.{refl, sym, ap, subst, ◌∙◌}
use Rattle.std.proofs.lemmas.Result.{IfOk-weaker}
use Rattle.hc_signal.specs.declared.signal.Ports.{Ports}
use Rattle.hc_bench.specs.Answers.{Refuses}
use Rattle.hc_bench.specs.Steps.{steps_of}
use Rattle.hc_dbstate.specs.Elaboration.{hier_view}
use Rattle.hc_dbstate.specs.Unfolding.{unfolding_of}
use Rattle.hc_output.proofs.Runs.{same_ports}
use Rattle.hc_cli.specs.Histories.{IsThis}
use Rattle.hc_cli.proofs.DueLaws.{serves_refused, serves_whole}
use Rattle.hc_cli.proofs.elaborated.prepare_elaborated.Goals as goal

pub returns-in_ok-output-in-Ok : goal.returns-in_ok-output-in-Ok
returns-in_ok-output-in-Ok c = λ e elaborates for called.
    let entries = c.args.db.entries in
    let hier = c.args.hier.now in
    let design = c.args.design.now in
    let given = ap (λ (p : Ports). steps_of design p) (same_ports (unfolding_of entries (hier_view hier).own.entry) e.tree for.top) ∙ c.in-Ok.ensures.answer in
    serves_whole (IsThis c.args.db e.calls) c.args.job.now design e c.in-Ok.bench.steps c.in_ok-output-in-Ok.output c.kept_of.result elaborates given
    (c.in_ok-output-in-Ok.ensures.out e for (λ stat. called) (c.elaborated_trees.ensures.free design e elaborates)) c.in_ok-output-in-Ok.ensures.ready (c.kept_of.ensures, refl)

pub returns-in-Err : goal.returns-in-Err
returns-in-Err c = IfOk-weaker c.bench_told.result _ _ (
    λ p told. λ e elaborates for called.
    let entries = c.args.db.entries in
    let hier = c.args.hier.now in
    let design = c.args.design.now in
    let refused = subst (λ (p : Ports). Refuses c.in-Err.refused (steps_of design p)) (sym (same_ports (unfolding_of entries (hier_view hier).own.entry) e.tree for.top)) c.in-Err.ensures.answer in
    serves_refused (IsThis c.args.db e.calls) c.args.job.now design e c.in-Err.refused c.kept_of-in-Err.result p elaborates refused told (c.kept_of-in-Err.ensures, refl)
    ) c.bench_told.ensures
