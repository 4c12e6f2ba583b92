use Rattle.std.proofs.Common.{sym, ap, subst, ◌∙◌}
use Rattle.std.specs.Prelude.{Result}
use Rattle.hc_statements.specs.Gives.{Refuses}
use Rattle.hc_statements.specs.Steps.{Broken}
use Rattle.hc_statements.specs.declared.state.Elaborating.{Elaborating}
use Rattle.hc_statements.specs.Elaborated.{weighed}
use Rattle.hc_body.proofs.blocks.perform.Goals as goal

abbrev Done : Type 0
Done = Result (Elaborating × Unit {0}) Broken

pub returns-in-Ok-weigh-clause-done : goal.returns-in-Ok-weigh-clause-done
returns-in-Ok-weigh-clause-done c = ap (λ (r : Done). weighed c.args.design.now c.args.path.now c.args.run.now.count c.args.stmt.now.line r) c.in-Ok.ensures.done
    ∙ c.in-Ok-weigh.ensures c.args.design.now

pub returns-in-Err-clause-done : goal.returns-in-Err-clause-done
returns-in-Err-clause-done c = subst (λ (r : Done). Refuses c.in-Err.stop (weighed c.args.design.now c.args.path.now c.args.run.now.count c.args.stmt.now.line r))
    (sym c.in-Ok.ensures.done) (c.in-Err.ensures c.args.design.now)
