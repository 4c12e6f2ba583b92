-- What an insertion asks of a pass, and what it makes of it.
use Rattle.std.specs.Prelude.{◌≡◌, ◌⊎◌, List}
use mathlib.Core.List.{IsPrefix}
use Rattle.hc_signal.specs.Member.{Has}
use Rattle.hc_canon.specs.declared.form.EntryId.{EntryId}
use Rattle.hc_canon.specs.FormView.{FormView}
use Rattle.hc_dbstate.specs.declared.turns.Entered.{Entered}
use Rattle.hc_dbstate.specs.History.{History, IsLegal, log, entered}
use Rattle.hc_dbstate.specs.Insertion.{IsInserted}
use Rattle.hc_turn.specs.declared.view.View.{View}
use Rattle.hc_turn.specs.Views.{ArePrefixesOf, after_enter, left_as_it_was, left_with}

-- one of the turns names the entry
abbrev pub Names : List Entered → EntryId → Type 0
Names turns id = (e : Entered) × Has turns e × (e.entry ≡ id)

-- a turn that the pass has seen names the entry, or one of a list that it keeps
abbrev pub KnowsEntry : View Entered → EntryId → Type 0
KnowsEntry v id = Names v.seen id ⊎ ((turns : List Entered) × Has v.kept turns × Names turns id)

-- the pass knows the entry of each instance of the form
abbrev pub KnowsKids : View Entered → FormView → Type 0
KnowsKids v form = (id : EntryId) → Has form.kids id → KnowsEntry v id

-- The pass finds this history when it takes the turn: the log begins with what it has seen and with each list that it keeps.
pub record Finds (v : View Entered) (h : History) : Type 0 where
  pub legal : IsLegal h
  pub seen : IsPrefix v.seen (log h)
  pub kept : ArePrefixesOf (log h) v.kept

-- A pass that knew v inserted the form, was answered this entry, and now knows w. In its turn it found the old history and
-- left the new one. The new turn stands at the end of what it has seen, and the place of that turn is its own.
pub record Inserts (v : View Entered) (form : FormView) (id : EntryId) (w : View Entered) : Type 0 where
  pub old : History
  pub new : History
  pub found : Finds v old
  pub inserted : IsInserted old new form id
  pub legal : IsLegal new
  pub known : w ≡ left_with (after_enter v (log old)) (entered id inserted.fresh form)

-- A pass that knew v inserted nothing in its turn, and now knows w. It has seen the history that it found.
pub record InsertsNothing (v w : View Entered) : Type 0 where
  pub history : History
  pub found : Finds v history
  pub known : w ≡ left_as_it_was (after_enter v (log history))
