-- The rows of a plan by their heights, and what is finished of them.
use Rattle.std.specs.Prelude.{◌≡◌, ◌<◌, ◌≤◌, ◌+◌, ◌==◌, if◌then◌else◌, ℕ, zero, suc, List, [], ◌∷◌, ◌++◌, length, map, slice_get, slice_set, IsPermutation, Option, Some, None}
use Rattle.std.specs.List.{range_with_len}
use Rattle.hc_signal.specs.Member.{Has}
use Rattle.hc_paths.specs.declared.kinds.Paths.{Paths}
use Rattle.hc_canon.specs.declared.form.EntryId.{EntryId}
use Rattle.hc_dbstate.specs.declared.turns.Entered.{Entered}
use Rattle.hc_turn.specs.declared.view.View.{View}
use Rattle.hc_db.specs.OwnTurns.{KnowsForm}
use Rattle.hc_plan.specs.Finishing.{AreOutcomes, IsOutcome, Outcome, outcome_in}
use Rattle.hc_plan.specs.Stepping.{outs_of}
use Rattle.hc_plan.specs.declared.kinds.PlanRow.{PlanRow}
use Rattle.hc_workers.specs.Working.{AreFinishedAt, IsReadyRow, Owns}

-- ---- rows by their heights

-- the places of the rows of a height, where the first row stands at place s
abbrev pub places_from : ℕ → ℕ → List PlanRow → List ℕ
places_from height s [] = []
places_from height s (row ∷ rows) = (if row.height == height then s ∷ places_from height (s + 1) rows else places_from height (s + 1) rows)

-- the places of the rows up to a height, lower ones first
abbrev pub places_to : ℕ → List PlanRow → List ℕ
places_to zero rows = []
places_to (suc height) rows = places_to height rows ++ places_from (suc height) 0 rows

-- no row is higher
abbrev pub IsHighest : List PlanRow → ℕ → Type 0
IsHighest rows height = (k : ℕ) (row : PlanRow) → slice_get rows k ≡ Some row → row.height ≤ height

-- The rows are ready, have a height, and are higher than their children.
pub record AreByHeight (rows : List PlanRow) : Type 0 where
  pub ready : (k : ℕ) (row : PlanRow) → slice_get rows k ≡ Some row → IsReadyRow row
  pub some : (k : ℕ) (row : PlanRow) → slice_get rows k ≡ Some row → 1 ≤ row.height
  pub lower : (k j : ℕ) (row kid : PlanRow) → slice_get rows k ≡ Some row → Has row.kids j → slice_get rows j ≡ Some kid → kid.height < row.height

-- ---- what became of rows

-- the list with these items at these places
abbrev pub written : {X : Type 0} → List X → List ℕ → List X → List X
written xs [] list = xs
written xs (k ∷ places) [] = xs
written xs (k ∷ places) (o ∷ list) = written (slice_set xs k o) places list

-- what became of the row at a place
abbrev pub outcome_at : List Outcome → ℕ → Outcome
outcome_at outs k = outcome_in (slice_get outs k)

-- The rows of the height are finished, and what became of them is written down.
pub record IsLevelDone (v w : View Entered) (rows : List PlanRow) (height : ℕ) (old new : List (Option (EntryId × Paths))) : Type 0 where
  pub list : List (Option (EntryId × Paths))
  pub finished : AreFinishedAt v w rows (outs_of old) (places_from height 0 rows) (outs_of list)
  pub is : new ≡ written old (places_from height 0 rows) list

-- The rows up to a height are finished, and the pass owns their turns, lower rows first. Higher rows are not.
pub record AreFinishedTo (v w : View Entered) (rows : List PlanRow) (outs : List Outcome) (height : ℕ) : Type 0 where
  pub many : length outs ≡ length rows
  pub low : (k : ℕ) (row : PlanRow) (o : Outcome) → slice_get rows k ≡ Some row → slice_get outs k ≡ Some o → row.height ≤ height → IsOutcome (KnowsForm w) outs row o
  pub high : (k : ℕ) (row : PlanRow) → slice_get rows k ≡ Some row → height < row.height → slice_get outs k ≡ Some None
  pub owns : Owns v w (map (outcome_at outs) (places_to height rows))

-- Each row has its outcome, and the pass owns the turns of the rows in some order.
pub record AreAllFinished (v w : View Entered) (rows : List PlanRow) (outs : List Outcome) : Type 0 where
  pub outcomes : AreOutcomes (KnowsForm w) rows outs
  pub order : List ℕ
  pub all : IsPermutation order (range_with_len 0 (length rows))
  pub within : (k : ℕ) → Has order k → k < length rows
  pub owns : Owns v w (map (outcome_at outs) order)
