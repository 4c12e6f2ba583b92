-- What an insertion answers and leaves.
use Rattle.std.specs.Prelude.{◌≡◌, ◌≢◌, ℕ, Bool, true, false, List, [], ◌∷◌, ◌++◌, length, slice_get, Some}
use Rattle.hc_canon.specs.declared.form.EntryId.{EntryId}
use Rattle.hc_canon.specs.FormView.{FormView}
use Rattle.hc_dbstate.specs.declared.turns.Entered.{Entered}
use Rattle.hc_dbstate.specs.History.{History, log, turn, entered}

-- The answer to a form: the place where it stands, or else the next place, which is fresh.
abbrev pub IsAnswer : List FormView → FormView → EntryId → Bool → Type 0
IsAnswer entries form id true = (id.0 ≡ length entries) × ((k : ℕ) → slice_get entries k ≢ Some form)
IsAnswer entries form id false = slice_get entries id.0 ≡ Some form

-- the entries after that
abbrev pub entries_after : List FormView → FormView → Bool → List FormView
entries_after entries form true = entries ++ form ∷ []
entries_after entries form false = entries

-- The history grew by one turn, which has the form handed in.
pub record IsInserted (old new : History) (form : FormView) (id : EntryId) : Type 0 where
  pub fresh : Bool
  pub answer : IsAnswer old.entries form id fresh
  pub entries : new.entries ≡ entries_after old.entries form fresh
  pub found : slice_get new.entries id.0 ≡ Some form
  pub turns : new.turns ≡ old.turns ++ turn id fresh ∷ []
  pub log : log new ≡ log old ++ entered id fresh form ∷ []

-- The forms of the log, one after another put into these entries, get the answers that the log has, and leave the last ones.
abbrev pub Replays : List FormView → List Entered → List FormView → Type 0
Replays entries [] end = end ≡ entries
Replays entries (e ∷ rest) end = IsAnswer entries e.form e.entry e.fresh × Replays (entries_after entries e.form e.fresh) rest end
