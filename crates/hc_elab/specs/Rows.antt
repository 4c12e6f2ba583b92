-- Rows of a plan, finished one after another in a database.
use Rattle.std.specs.Prelude.{◌≡◌, ◌<◌, ℕ, List, [], ◌∷◌, ◌++◌, length, map, slice_get, Some, None}
use Rattle.hc_canon.specs.declared.form.EntryId.{EntryId}
use Rattle.hc_canon.specs.FormView.{FormView}
use Rattle.hc_dbstate.specs.declared.turns.Entered.{Entered}
use Rattle.hc_dbstate.specs.History.{History, log}
use Rattle.hc_plan.specs.Finishing.{AreOutcomes, IsOutcome, Outcome}
use Rattle.hc_plan.specs.Hierarchies.{Done}
use Rattle.hc_plan.specs.declared.kinds.PlanRow.{PlanRow}

-- the entry has this form in the history
abbrev pub HasForm : History → EntryId → FormView → Type 0
HasForm h id form = slice_get h.entries id.0 ≡ Some form

-- each entry is there
abbrev pub AreThere : History → List Outcome → Type 0
AreThere h outs = (k : ℕ) (x : Done) → slice_get outs k ≡ Some (Some x) → x.0.0 < length h.entries

-- the entries of the rows that are finished
abbrev pub entries_of : List Outcome → List EntryId
entries_of [] = []
entries_of (None ∷ outs) = entries_of outs
entries_of (Some x ∷ outs) = x.0 ∷ entries_of outs

-- The log grew by one turn for each of the rows that is finished, in order, with the row's entry.
pub record LogsRows (old new : History) (outs : List Outcome) : Type 0 where
  pub added : List Entered
  pub log : log new ≡ log old ++ added
  pub turns : map (λ (x : Entered). x.entry) added ≡ entries_of outs

-- The row has this outcome, over those of its children; if it is finished, it took one turn. Earlier entries keep their forms.
pub record IsFinished (old new : History) (outs : List Outcome) (row : PlanRow) (out : Outcome) : Type 0 where
  pub outcome : IsOutcome (HasForm new) outs row out
  pub logs : LogsRows old new (out ∷ [])
  pub kept : (id : EntryId) (form : FormView) → HasForm old id form → HasForm new id form

-- Each row has its outcome, and the rows took their turns in order.
pub record AreFinished (old new : History) (rows : List PlanRow) (outs : List Outcome) : Type 0 where
  pub outcomes : AreOutcomes (HasForm new) rows outs
  pub logs : LogsRows old new outs
