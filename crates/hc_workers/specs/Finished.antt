-- One row that a pass finishes.
use Rattle.std.specs.Prelude.{◌≡◌, ℕ, List, [], ◌∷◌, ◌++◌, Option}
use Rattle.hc_paths.specs.declared.kinds.Paths.{Paths}
use Rattle.hc_canon.specs.declared.form.EntryId.{EntryId}
use Rattle.hc_dbstate.specs.declared.turns.Entered.{Entered}
use Rattle.hc_turn.specs.declared.view.View.{View}
use Rattle.hc_db.specs.OwnTurns.{KnowsForm}
use Rattle.hc_plan.specs.Finishing.{IsOutcome, Outcome}
use Rattle.hc_plan.specs.Stepping.{outcome_of}
use Rattle.hc_plan.specs.declared.kinds.PlanRow.{PlanRow}
use Rattle.hc_workers.specs.Working.{AreFinishedAt, Owns}

-- the row has this outcome, and the pass owns its turn
pub record FinishesRow (v w : View Entered) (outs : List Outcome) (row : PlanRow) (out : Outcome) : Type 0 where
  pub outcome : IsOutcome (KnowsForm w) outs row out
  pub owns : Owns v w (out ∷ [])

-- the row at the place is finished, and its outcome stands at the end of the list
pub record FinishesOne (v w : View Entered) (rows : List PlanRow) (outs : List Outcome) (place : ℕ) (old new : List (Option (EntryId × Paths))) : Type 0 where
  pub out : Option (EntryId × Paths)
  pub is : new ≡ old ++ out ∷ []
  pub finished : AreFinishedAt v w rows outs (place ∷ []) (outcome_of out ∷ [])
