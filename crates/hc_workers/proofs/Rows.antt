-- The rows of a plan, by their heights.
use Rattle.std.proofs.Common.{◌≡◌, ℕ, ◌<◌, ◌≤◌, List, length, sym, ap, subst, ◌∙◌}
use Rattle.std.proofs.lemmas.List.{length-map}
use Rattle.std.proofs.lemmas.Option.{slice_get_within}
use Rattle.std.specs.Prelude.{slice_get, Option, Some, Result, Ok, Err, IfOk, Vec, ℤ}
use Rattle.hc_fault.specs.declared.fault.Fault.{Fault}
use Rattle.hc_fault.specs.declared.fault.Path.{Path}
use Rattle.hc_lang.specs.declared.tree.CircuitText.{CircuitText}
use Rattle.hc_lang.specs.declared.tree.Design.{Design}
use Rattle.hc_signal.specs.Checked.{IsChecked}
use Rattle.hc_signal.specs.Member.{Has}
use Rattle.hc_body.specs.declared.kinds.Body.{Body}
use Rattle.hc_body.specs.BodyOf.{BodyOf}
use Rattle.hc_body.specs.BodyOf as body_of
use Rattle.hc_body.specs.Children.{AreChildrenOf}
use Rattle.hc_statements.specs.declared.kinds.Child.{Child}
use Rattle.hc_dbstate.specs.declared.turns.Entered.{Entered}
use Rattle.hc_turn.specs.declared.view.View.{View}
use Rattle.hc_plan.specs.Elaborates.{FinishedCall}
use Rattle.hc_plan.specs.Finishing.{Outcome}
use Rattle.hc_plan.specs.Plan.{IsPlanOf, IsRowOf, call_at}
use Rattle.hc_canon.specs.declared.form.EntryId.{EntryId}
use Rattle.hc_paths.specs.declared.kinds.Paths.{Paths}
use Rattle.hc_plan.specs.Stepping.{outs_of}
use Rattle.hc_plan.specs.declared.kinds.PlanRow.{PlanRow}
use Rattle.hc_workers.specs.Levels.{AreAllFinished, AreByHeight, AreFinishedTo, IsHighest, places_to}
use Rattle.hc_workers.proofs.Heights.{all_low, item_at, row_below}
use Rattle.hc_workers.proofs.Ordering.{all_places}

-- ---- the laws of plans and bodies, as premises

abbrev pub HaveHeights : Design → Type 0
HaveHeights d = (rows : List PlanRow) (stop : Option Fault) (k : ℕ) (row : PlanRow) → IsPlanOf d rows stop → slice_get rows k ≡ Some row → 1 ≤ row.height

abbrev pub HaveLowerKids : Design → Type 0
HaveLowerKids d = (rows : List PlanRow) (stop : Option Fault) (k j : ℕ) (row kid : PlanRow) → IsPlanOf d rows stop → slice_get rows k ≡ Some row → Has row.kids j
    → slice_get rows j ≡ Some kid → kid.height < row.height

abbrev pub HaveChildren : Design → Type 0
HaveChildren d = (c : CircuitText) (args : List ℤ) (path : Path) (b : Body) → BodyOf d c args path (Ok b) → AreChildrenOf d b

-- ---- the rows of a plan

row_is : (d : Design) (rows : List PlanRow) (stop : Option Fault) → IsPlanOf d rows stop → (k : ℕ) (row : PlanRow) → slice_get rows k ≡ Some row → (x : FinishedCall) × IsRowOf d rows k row x
row_is d rows stop plan k row at =
    let x : (x : FinishedCall) × (slice_get plan.firsts k ≡ Some x) = item_at plan.firsts k (subst (λ n. k < n) plan.are.many (slice_get_within rows k row at)) in
    (x.0, plan.are.each k row x.0 at x.1)

body_checked : (d : Design) (c : CircuitText) (args : List ℤ) (path : Path) (b : Body) → BodyOf d c args path (Ok b) → IsChecked b.circuit
body_checked d c args path b (body_of.whole e done checked) = checked

-- the rows of a plan are by height
pub by_height : (d : Design) (rows : List PlanRow) (stop : Option Fault) → HaveChildren d → HaveHeights d → HaveLowerKids d → IsPlanOf d rows stop → AreByHeight rows
by_height d rows stop children heights lower plan = record {
  ready = λ k row at. (
      let is : IsRowOf d rows k row (row_is d rows stop plan k row at).0 = (row_is d rows stop plan k row at).1 in (
        body_checked d is.circuit row.call.args row.first row.body is.body,
        sym (length-map row.kids (call_at rows)) ∙ ap length is.kids ∙ length-map row.body.children (λ (c : Child). Some c.call) ∙ (children is.circuit row.call.args row.first row.body is.body).many,
      ));
  some = λ k row at. heights rows stop k row plan at;
  lower = λ k j row kid at m there. lower rows stop k j row kid plan at m there;
}

-- the rows up to the highest are all rows
pub all_finished : (v w : View Entered) (rows : List PlanRow) (outs : List Outcome) (height : ℕ) → AreByHeight rows → IsHighest rows height
    → AreFinishedTo v w rows outs height → AreAllFinished v w rows outs
all_finished v w rows outs height heights highest done = record {
  outcomes = all_low v w rows outs height highest done;
  order = places_to height rows;
  all = all_places height rows heights.some highest;
  within = λ k h. (let r : _ = row_below height rows k h in slice_get_within rows k r.0 r.1);
  owns = done.owns;
}

-- what became of the rows of the plan, unless memory ran out
pub plan_finished : {E Z : Type 0} (v w : View Entered) (rows all : List PlanRow) (height : ℕ) (r : Result (Vec (Option (EntryId × Paths)) Z) E) → rows ≡ all
    → AreByHeight rows → IsHighest rows height → IfOk r (λ outs. AreFinishedTo v w rows (outs_of outs.items) height)
    → IfOk r (λ outs. AreAllFinished v w all (outs_of outs.items))
plan_finished v w rows all height (Err e) same heights highest done = tt
plan_finished v w rows all height (Ok outs) same heights highest done = subst (λ l. AreAllFinished v w l (outs_of outs.items)) same
    (all_finished v w rows (outs_of outs.items) height heights highest done)
