use Rattle.std.proofs.Common.{◌≡◌, [], ap, subst, ◌∙◌}
use Rattle.std.specs.Prelude.{Result, Ok, Err, IfOk}
use Rattle.std.proofs.lemmas.Result.{IfOk-weaker}
use Rattle.hc_fault.specs.declared.fault.Refused.{Refused}
use Rattle.hc_dbstate.specs.declared.hier.Hier.{Hier}
use Rattle.hc_dbstate.specs.declared.turns.Entered.{Entered}
use Rattle.hc_db.specs.Inserting.{Finds}
use Rattle.hc_lang.specs.declared.tree.Design.{Design}
use Rattle.hc_plan.specs.Elaborates.{DesignElaborates}
use Rattle.hc_plan.specs.Planning.{Faults}
use Rattle.hc_turn.specs.Passes.{known}
use Rattle.hc_turn.specs.declared.view.View.{View}
use Rattle.hc_turn.specs.Views.{whole}
use Rattle.hc_workers.specs.Owning.{OwnsDistinct}
use Rattle.hc_cli.specs.Histories.{IsHistoryOf}
use Rattle.hc_cli.proofs.DueLaws.{by_rule, serves_broken}
use Rattle.hc_cli.proofs.Kept.{no_calls}
use Rattle.hc_cli.proofs.many.prepare_design.Goals as goal

owned_by : (d : Design) (v w : View Entered) (answer : Result Hier Refused) (hier : Hier) → v ≡ whole [] → answer ≡ Ok hier → IfOk answer (OwnsDistinct d v w) → OwnsDistinct d (whole []) w hier
owned_by d v w answer hier first is owns = subst (λ (u : View Entered). OwnsDistinct d u w hier) first (subst (λ (r : Result Hier Refused). IfOk r (OwnsDistinct d v w)) is owns)

pub returns-in-Ok : goal.returns-in-Ok
returns-in-Ok g c =
    let job = c.args.job.now in
    let design = c.args.design.now in
    let hier = c.in-Ok.hier in
    let state = c.finish-state.result in
    let w = known c.elab_many-pass.result.0 in
    let owns = owned_by design (known c.in_ok-db.pass) w c.elab_many-pass.result.1 hier c.in_ok-db.ensures.pass c.in-Ok.is c.elab_many-pass.ensures.hierarchy in
    let finds : Finds w state = record { legal = c.legal.ensures; seen = c.finish-state.ensures.seen; kept = c.finish-state.ensures.kept } in
    let order = c.finish-state.ensures.all (c.elab_many-pass.ensures.share ∙ ap (λ (v : View Entered). v.share) c.in_ok-db.ensures.pass) in
    let law = c.owned_turns_are_histories.ensures in
    let for = law.hierarchy design w hier state owns finds in
    let called = law.called design w hier state c.legal.ensures owns finds order in
    let history = law.history design w hier state c.legal.ensures owns finds order in
    IfOk-weaker c.prepare_elaborated.result _ _ (λ p s. by_rule IsHistoryOf job design p state owns.e.calls (s owns.e owns.elaborates for called) history) c.prepare_elaborated.ensures

pub returns-in-Err : goal.returns-in-Err
returns-in-Err g c =
    serves_broken IsHistoryOf no_calls c.args.job.now c.args.design.now c.in-Err.refused c.told.result
    (subst (λ (r : Result Hier Refused). Faults (λ f. DesignElaborates c.args.design.now (Err f)) r) c.in-Err.is c.elab_many-pass.ensures.fault) c.told.ensures
