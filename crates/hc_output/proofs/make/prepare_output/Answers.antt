use Rattle.std.proofs.Common.{sym, subst}
use Rattle.std.proofs.lemmas.Result.{IfOk-weaker}
use Rattle.hc_words.specs.declared.job.Verb.{Verb}
use Rattle.hc_output.specs.Output.{HasSummary}
use Rattle.hc_output.specs.Prepared.{HasOutput}
use Rattle.hc_output.proofs.make.prepare_output.Goals as goal

pub returns-in-Stat-clause-out : goal.returns-in-Stat-clause-out
returns-in-Stat-clause-out c = IfOk-weaker c.stat_output.result _ _ (
    λ o out. λ e for called free.
    subst (λ (v : Verb). HasOutput v c.args.flat c.args.title.now e c.args.bench.steps o) (sym c.in-Stat.is) (out e for (called (subst HasSummary (sym c.in-Stat.is) tt)) free)
    ) c.stat_output.ensures.out

pub returns-in-Gen-clause-out : goal.returns-in-Gen-clause-out
returns-in-Gen-clause-out c = IfOk-weaker c.gen_output.result _ _ (
    λ o out. λ e for called free.
    subst (λ (v : Verb). HasOutput v c.args.flat c.args.title.now e c.args.bench.steps o) (sym c.in-Gen.is) (out e for (called (subst HasSummary (sym c.in-Gen.is) tt)))
    ) c.gen_output.ensures.out
