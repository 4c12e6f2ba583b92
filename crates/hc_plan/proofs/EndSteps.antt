-- How the rows of a plan ended, and what that gives.
use Rattle.std.proofs.Common.{◌≡◌, ℕ, zero, suc, ◌<◌, List, [], ◌∷◌, ◌++◌, length, map, refl, sym, ap, subst, ◌∙◌, arith, append-nil}
use Rattle.std.proofs.lemmas.List.{length-map, map-append}
use Rattle.std.proofs.lemmas.Option.{slice_get_within, slice_get-map}
use Rattle.std.specs.Prelude.{slice_get, Option, Some, None, option_map, Result, Ok, Err, IfOk, OnOk}
use Rattle.hc_canon.specs.declared.form.EntryId.{EntryId}
use Rattle.hc_dbstate.specs.declared.hier.Hier.{Hier}
use Rattle.hc_dbstate.specs.Elaboration.{hier_view}
use Rattle.hc_fault.specs.declared.fault.Fault.{Fault}
use Rattle.hc_fault.specs.declared.fault.FaultKind.TheVariants.{CombLoop}
use Rattle.hc_fault.specs.declared.fault.Refused.{Refused}
use Rattle.hc_fault.specs.declared.fault.Refused.TheVariants as refused
use Rattle.hc_lang.specs.declared.tree.Design.{Design}
use Rattle.hc_paths.specs.declared.kinds.Paths.{Paths}
use Rattle.hc_statements.specs.Elaborated.{fault_at}
use Rattle.hc_statements.specs.Gives.{Tells}
use Rattle.hc_plan.specs.Concluded.{AreFinishedBelow, IsConcluded}
use Rattle.hc_plan.specs.Elaborates.{DesignElaborates, Elaborated, stop_of}
use Rattle.hc_plan.specs.Finishing.{AreOutcomes, Outcome, any_form}
use Rattle.hc_plan.specs.Hierarchies.{Done, IsHierAt}
use Rattle.hc_plan.specs.Plan.{IsPlanOf}
use Rattle.hc_plan.specs.Planning.{FaultIs, Faults}
use Rattle.hc_plan.specs.Stepping.{dones_of, outcome_of, outs_of}
use Rattle.hc_plan.specs.declared.kinds.Plan.{Plan}
use Rattle.hc_plan.specs.declared.kinds.PlanRow.{PlanRow}
use Rattle.hc_plan.proofs.HierSteps.{seen_done, some_at}

abbrev pub Out : Type 0
Out = Option (EntryId × Paths)

-- each of them is finished
abbrev pub all_of : List Done → List Outcome
all_of done = map (λ (x : Done). Some x) done

-- ---- outcomes in order

outs_append : (xs ys : List Out) → outs_of (xs ++ ys) ≡ outs_of xs ++ outs_of ys
outs_append [] ys = refl
outs_append (x ∷ xs) ys = ap (λ l. outcome_of x ∷ l) (outs_append xs ys)

all_append : (done : List (EntryId × Paths)) (x : EntryId × Paths)
    → all_of (dones_of (done ++ x ∷ [])) ≡ all_of (dones_of done) ++ Some (seen_done x) ∷ []
all_append done x =
    ap all_of (map-append seen_done done (x ∷ [])) ∙ map-append (λ (y : Done). Some y) (dones_of done) (seen_done x ∷ [])

all_many : (done : List (EntryId × Paths)) → length (all_of (dones_of done)) ≡ length done
all_many done = length-map (dones_of done) (λ (y : Done). Some y) ∙ length-map done seen_done

-- one more is finished
pub one_done_more : (outs : List Out) (old new : List (EntryId × Paths)) (out : Out) (x : EntryId × Paths)
    → out ≡ Some x → outs_of outs ≡ all_of (dones_of old) → new ≡ old ++ x ∷ []
    → outs_of (outs ++ out ∷ []) ≡ all_of (dones_of new)
one_done_more outs old new out x this before is =
    ap (λ (o : Out). outs_of (outs ++ o ∷ [])) this
    ∙ outs_append outs (Some x ∷ [])
    ∙ ap (λ l. l ++ Some (seen_done x) ∷ []) before
    ∙ sym (ap (λ l. all_of (dones_of l)) is ∙ all_append old x)

same_at : (done : List Done) (j : ℕ) (x : Done)
    → slice_get done j ≡ Some x → slice_get (all_of done) j ≡ Some (Some x)
same_at done j x e = slice_get-map (λ (y : Done). Some y) done j ∙ ap (option_map (λ (y : Done). Some y)) e

finished_below : (done : List Done) (more : List Outcome) → AreFinishedBelow (all_of done ++ more) (length done)
finished_below [] more j l = absurd (omega (arith, l))
finished_below (x ∷ xs) more zero l = (x, refl)
finished_below (x ∷ xs) more (suc j) l = finished_below xs more j (omega (arith, l))

here_after : {X : Type 0} (xs : List X) (x : X) (more : List X) → slice_get (xs ++ x ∷ more) (length xs) ≡ Some x
here_after [] x more = refl
here_after (y ∷ xs) x more = here_after xs x more

-- the first that is not finished stands after those that are
pub open_after : (outs all : List Out) (done now : List (EntryId × Paths)) (out : Out) (left more : List Out)
    → out ≡ None → now ≡ done → outs_of outs ≡ all_of (dones_of done) → left ≡ out ∷ more → outs ++ left ≡ all
    → (slice_get (outs_of all) (length now) ≡ Some None) × AreFinishedBelow (outs_of all) (length now)
open_after outs all done now out left more this same before next is = (
  subst (λ n. slice_get (outs_of all) n ≡ Some None) (all_many done ∙ many) here,
  subst (AreFinishedBelow (outs_of all)) (length-map done seen_done ∙ many) below,
)
  where
    many : length done ≡ length now
    many = ap length (sym same)

    split : outs_of all ≡ all_of (dones_of done) ++ None ∷ outs_of more
    split =
        ap outs_of (sym is)
        ∙ outs_append outs left
        ∙ ap (λ l. outs_of outs ++ outs_of l) (next ∙ ap (λ (o : Out). o ∷ more) this)
        ∙ ap (λ l. l ++ None ∷ outs_of more) before

    here : slice_get (outs_of all) (length (all_of (dones_of done))) ≡ Some None
    here =
        ap (λ l. slice_get l (length (all_of (dones_of done)))) split
        ∙ here_after (all_of (dones_of done)) None (outs_of more)

    below : AreFinishedBelow (outs_of all) (length (dones_of done))
    below =
        subst (λ l. AreFinishedBelow l (length (dones_of done))) (sym split)
        (finished_below (dones_of done) (None ∷ outs_of more))

-- ---- a plan whose rows are all finished

module _ (rows : List PlanRow) (outs : List Out) (outcomes : AreOutcomes any_form rows (outs_of outs)) where
  module _ (done : List (EntryId × Paths)) (is : outs_of outs ≡ all_of (dones_of done)) where
    -- as many as rows
    pub dones_many : length (dones_of done) ≡ length rows
    dones_many = sym (length-map (dones_of done) (λ (y : Done). Some y)) ∙ sym (ap length is) ∙ outcomes.many

    -- all are finished
    pub all_finished : AreFinishedBelow (outs_of outs) (length rows)
    all_finished =
        let these : all_of (dones_of done) ++ [] ≡ outs_of outs = append-nil (all_of (dones_of done)) ∙ sym is in
        subst (AreFinishedBelow (outs_of outs)) dones_many
        (subst (λ l. AreFinishedBelow l (length (dones_of done))) these (finished_below (dones_of done) []))

  -- an open row is a row
  pub open_within : (k : ℕ) → slice_get (outs_of outs) k ≡ Some None → k < length rows
  open_within k at = subst (λ n. k < n) outcomes.many (slice_get_within (outs_of outs) k None at)

-- the hierarchy is that of the last row
pub concluded : {E : Type 0} (d : Design) (plan : Plan) (outs : List Out) → AreOutcomes any_form plan.rows (outs_of outs)
    → (done now : List (EntryId × Paths)) (r : Result Hier E)
    → outs_of outs ≡ all_of (dones_of done) → now ≡ done → OnOk r (plan.stop ≡ None)
    → IfOk r (λ h. (k : ℕ) → suc k ≡ length plan.rows → IsHierAt d plan.rows (dones_of now) k (hier_view h))
    → IfOk r (IsConcluded d plan outs)
concluded d plan outs outcomes done now (Err e) is same whole at = tt
concluded d plan outs outcomes done now (Ok h) is same whole at = record {
  whole = whole;
  done = dones_of now;
  many = dones_many plan.rows outs outcomes now these;
  same = λ j x e. ap (λ l. slice_get l j) these ∙ same_at (dones_of now) j x e;
  all = all_finished plan.rows outs outcomes now these;
  at = at;
}
  where
    these : outs_of outs ≡ all_of (dones_of now)
    these = is ∙ ap (λ l. all_of (dones_of l)) (sym same)

-- ---- the faults

stopped : (r : Result Elaborated Fault) (f : Fault) → Some f ≡ stop_of r → r ≡ Err f
stopped (Ok e) f q = absurd cc
stopped (Err g) f q =
    let same : f ≡ g = cc in
    let stop : Fault → Result Elaborated Fault = λ x. Err x in
    ap stop (sym same)

-- where the plan's result is that of the design, the stop is its fault
pub stop_is_fault : {X : Type 0} (d : Design) (rows : List PlanRow) (stop : Option Fault) (plan : IsPlanOf d rows stop) (r : Result X Refused)
    → DesignElaborates d plan.result → Faults (λ f. stop ≡ Some f) r → Faults (λ f. DesignElaborates d (Err f)) r
stop_is_fault d rows stop plan (Ok x) gives fault = tt
stop_is_fault d rows stop plan (Err refused.NoMemory) gives fault = tt
stop_is_fault d rows stop plan (Err (refused.Fault f)) gives fault =
    subst (DesignElaborates d) (stopped plan.result f (sym fault ∙ plan.stops)) gives

-- the loop of a row, where it is the design's fault
abbrev pub loop_of : PlanRow → Fault
loop_of row = fault_at row.first CombLoop 0

-- the loop of the row at a place is the fault that was answered
pub loop_is_fault : (d : Design) (rows : List PlanRow) (k : ℕ) (r : Refused) → k < length rows
    → ((row : PlanRow) → slice_get rows k ≡ Some row → Tells r (loop_of row))
    → ((row : PlanRow) → slice_get rows k ≡ Some row → DesignElaborates d (Err (loop_of row)))
    → FaultIs (λ f. DesignElaborates d (Err f)) r
loop_is_fault d rows k refused.NoMemory l tells gives = tt
loop_is_fault d rows k (refused.Fault f) l tells gives =
    let row : (row : PlanRow) × (slice_get rows k ≡ Some row) = some_at rows k l in
    subst (λ (g : Fault). DesignElaborates d (Err g)) (sym (tells row.0 row.1)) (gives row.0 row.1)
