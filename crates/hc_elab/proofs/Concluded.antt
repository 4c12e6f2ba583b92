-- What a design elaborates to, once the rows of its plan are finished.
use Rattle.std.proofs.Common.{◌≡◌, ℕ, zero, suc, ◌<◌, List, [], ◌∷◌, ◌++◌, length, refl, sym, ap, subst, ◌∙◌, arith}
use Rattle.std.proofs.lemmas.List.{length_push}
use Rattle.std.specs.Prelude.{slice_get, Option, Some, None, unwrap_or, Result, Ok, Err}
use Rattle.hc_fault.specs.declared.fault.Fault.{Fault}
use Rattle.hc_fault.specs.declared.fault.Refused.{Refused}
use Rattle.hc_fault.specs.declared.fault.Refused.TheVariants as refused
use Rattle.hc_lang.specs.declared.tree.Design.{Design}
use Rattle.hc_paths.specs.declared.kinds.Paths.{Paths}
use Rattle.hc_canon.specs.declared.form.EntryId.{EntryId}
use Rattle.hc_dbstate.specs.declared.hier.Hier.{Hier}
use Rattle.hc_dbstate.specs.Elaboration.{hier_view}
use Rattle.hc_dbstate.specs.History.{History, IsLegal}
use Rattle.hc_body.specs.TopCall.{top_call}
use Rattle.hc_plan.specs.Concluded.{IsConcluded}
use Rattle.hc_plan.specs.Distinct.{AreDistinct}
use Rattle.hc_plan.specs.Elaborates.{DesignElaborates, Elaborated, ElaboratedCall, no_call}
use Rattle.hc_plan.specs.Finishing.{AreOutcomes, Outcome, any_form, ids_of}
use Rattle.hc_plan.specs.Hierarchies.{AreEntriesOf, Done, ElaboratesIn, IsHierAt, IsHierarchyFor, LogsDistinct}
use Rattle.hc_plan.specs.Plan.{IsPlanOf}
use Rattle.hc_plan.specs.Planning.{FaultIs}
use Rattle.hc_plan.specs.Stepping.{outs_of}
use Rattle.hc_plan.specs.declared.kinds.Plan.{Plan}
use Rattle.hc_plan.specs.declared.kinds.PlanRow.{PlanRow}
use Rattle.hc_elab.specs.Rows.{AreFinished, HasForm, LogsRows, entries_of}
use Rattle.hc_elab.proofs.Finished.{outcome_stays}

-- the fault of the `top` line is that of the design
pub top_fails : (d : Design) (r : Refused) → FaultIs (λ f. top_call d ≡ Err f) r → FaultIs (λ f. DesignElaborates d (Err f)) r
top_fails d (refused.Fault f) e = ([], no_call f e)
top_fails d refused.NoMemory e = tt

-- the outcomes, whatever the forms
pub of_any_form : (old new : History) (rows : List PlanRow) (outs : List Outcome) → AreFinished old new rows outs → AreOutcomes any_form rows outs
of_any_form old new rows outs are = record {
  many = are.outcomes.many;
  each = λ k row o at out. outcome_stays (HasForm new) any_form (λ id form e. tt) outs outs row o refl
      (are.outcomes.each k row o at out);
}

-- where all are finished, these are the entries of what is done
entries_are : (outs : List Outcome) (done : List Done) → length done ≡ length outs → ((j : ℕ) (x : Done) → slice_get done j ≡ Some x → slice_get outs j ≡ Some (Some x)) → entries_of outs ≡ ids_of done
entries_are [] [] many same = refl
entries_are [] (x ∷ done) many same = absurd cc
entries_are (o ∷ outs) [] many same = absurd cc
entries_are (o ∷ outs) (x ∷ done) many same =
    let first_is : o ≡ Some x = ap (λ p. unwrap_or p o) (same zero x refl) in
    ap (λ p. entries_of (p ∷ outs)) first_is ∙ ap (λ l. x.0 ∷ l) (entries_are outs done (tails many) (λ j y e. same (suc j) y e))
  where
    tails : length (x ∷ done) ≡ length (o ∷ outs) → length done ≡ length outs
    tails e = omega (arith, e)

-- ---- the laws of plans, as premises

abbrev pub IsOnlyOne : Design → Type 0
IsOnlyOne d = (r s : Result Elaborated Fault) → DesignElaborates d r → DesignElaborates d s → r ≡ s

abbrev pub HierarchiesStand : Design → History → Type 0
HierarchiesStand d h =
    (rows : List PlanRow) (outs : List Outcome) (done : List Done) (hier : Hier) (k : ℕ) → IsLegal h → IsPlanOf d rows None → AreOutcomes (HasForm h) rows outs
    → ((j : ℕ) → j < length rows → (y : Done) × (slice_get outs j ≡ Some (Some y))) → ((j : ℕ) (x : Done) → slice_get done j ≡ Some x → slice_get outs j ≡ Some (Some x))
    → suc k ≡ length rows → IsHierAt d rows done k (hier_view hier) → ElaboratesIn d h.entries hier

abbrev pub AreTurns : Design → History → List Done → Type 0
AreTurns d h done = (e : Elaborated) × DesignElaborates d (Ok e) × (firsts : List ElaboratedCall) × AreDistinct e.calls firsts × AreEntriesOf h.entries (ids_of done) firsts

abbrev pub TurnsStand : Design → History → Type 0
TurnsStand d h =
    (rows : List PlanRow) (outs : List Outcome) (done : List Done) → IsLegal h → IsPlanOf d rows None → AreOutcomes (HasForm h) rows outs
    → ((j : ℕ) → j < length rows → (y : Done) × (slice_get outs j ≡ Some (Some y))) → ((j : ℕ) (x : Done) → slice_get done j ≡ Some x → slice_get outs j ≡ Some (Some x))
    → length done ≡ length rows → AreTurns d h done

-- ---- the hierarchy

-- the hierarchy and the turns are of one elaboration
both : (d : Design) → IsOnlyOne d → (old new : History) (outs : List Outcome) (done : List Done) (hier : Hier) → LogsRows old new outs → entries_of outs ≡ ids_of done
    → ElaboratesIn d new.entries hier → AreTurns d new done → (e : Elaborated) × DesignElaborates d (Ok e) × IsHierarchyFor new.entries hier e × LogsDistinct old new e
both d once old new outs done hier logs same stands turns =
    let alike : Ok turns.0 ≡ Ok stands.0 = once (Ok turns.0) (Ok stands.0) turns.1 stands.1 in
    let e_is : turns.0 ≡ stands.0 = cc in (
      stands.0,
      stands.1,
      stands.2,
      record {
        firsts = turns.2;
        distinct = subst (λ (e : Elaborated). AreDistinct e.calls turns.2) e_is turns.3;
        added = logs.added;
        log = logs.log;
        turns = subst (λ ids. AreEntriesOf new.entries ids turns.2) (sym (logs.turns ∙ same)) turns.4;
      },
    )

-- the place of the last row
last_place : (rows before : List PlanRow) (row : PlanRow) → rows ≡ before ++ row ∷ [] → suc (length before) ≡ length rows
last_place rows before row e = (let a : _ = length_push before row in let b : length rows ≡ length (before ++ row ∷ []) = ap length e in omega (arith, a, b))

pub concluded : (d : Design) (old new : History) (plan : Plan) (xs : List (Option (EntryId × Paths))) (hier : Hier) → IsOnlyOne d → HierarchiesStand d new
    → TurnsStand d new → IsLegal new → IsPlanOf d plan.rows plan.stop → AreFinished old new plan.rows (outs_of xs) → IsConcluded d plan xs hier
    → (e : Elaborated) × DesignElaborates d (Ok e) × IsHierarchyFor new.entries hier e × LogsDistinct old new e
concluded d old new plan xs hier once stand turns legal of are is =
    let whole : IsPlanOf d plan.rows None = subst (IsPlanOf d plan.rows) is.whole of in
    let last : (before : List PlanRow) × (row : PlanRow) × (plan.rows ≡ before ++ row ∷ []) × (row.call ≡ whole.call) = whole.last refl in
    let place : suc (length last.0) ≡ length plan.rows = last_place plan.rows last.0 last.1 last.2 in
    both d once old new (outs_of xs) is.done hier are.logs (entries_are (outs_of xs) is.done (is.many ∙ sym are.outcomes.many) is.same)
    (stand plan.rows (outs_of xs) is.done hier (length last.0) legal whole are.outcomes is.all is.same place (is.at (length last.0) place))
    (turns plan.rows (outs_of xs) is.done legal whole are.outcomes is.all is.same is.many)
