-- The history of the calls of an elaborated design.
use Rattle.std.specs.Prelude.{◌≡◌, ◌<◌, List, [], length, map, IsPermutation}
use Rattle.hc_signal.specs.Member.{Has}
use Rattle.hc_signal.specs.Tree.{Tree}
use Rattle.hc_canon.specs.declared.form.EntryId.{EntryId}
use Rattle.hc_canon.specs.FormView.{FormView}
use Rattle.hc_dbstate.specs.declared.turns.Turn.{Turn}
use Rattle.hc_dbstate.specs.History.{History, IsLegal}
use Rattle.hc_dbstate.specs.Unfolding.{Denotes}
use Rattle.hc_plan.specs.Distinct.{AreDistinct}
use Rattle.hc_plan.specs.Elaborates.{ElaboratedCall}
use Rattle.hc_plan.specs.Hierarchies.{AreEntriesOf, IsEntryOf}

-- the entries that the turns name, in order
abbrev pub entries_named : History → List EntryId
entries_named h = map (λ (t : Turn). t.entry) h.turns

-- exactly one entry denotes the tree
abbrev pub IsOnce : List FormView → Tree → Type 0
IsOnce entries t = (id : EntryId) × IsEntryOf entries id t × ((other : EntryId) → IsEntryOf entries other t → other ≡ id)

-- A legal history of these calls. There is one turn for each distinct call, with an entry that denotes the call's tree; the
-- turns come in any order. Exactly one entry denotes the tree of each call, and there is no other entry. So an entry has as
-- many turns as there are distinct calls whose tree it denotes. Without calls the history is empty.
pub record IsHistoryOf (h : History) (calls : List ElaboratedCall) : Type 0 where
  pub legal : IsLegal h
  pub firsts : List ElaboratedCall
  pub distinct : AreDistinct calls firsts
  pub ids : List EntryId
  pub denoted : AreEntriesOf h.entries ids firsts
  pub turns : IsPermutation (entries_named h) ids
  pub once : (c : ElaboratedCall) → Has calls c → IsOnce h.entries c.tree
  pub only : (id : EntryId) → id.0 < length h.entries → (c : ElaboratedCall) × Has calls c × Denotes h.entries id c.tree

-- A history whose turns stand in the order of the first places of their calls.
pub record IsHistoryInOrder (h : History) (calls : List ElaboratedCall) : Type 0 where
  pub history : IsHistoryOf h calls
  pub in_order : AreEntriesOf h.entries (entries_named h) history.firsts

-- what a history is to be for a list of calls
abbrev pub HistoryRule : Type 1
HistoryRule = History → List ElaboratedCall → Type 0

abbrev pub no_history : History
no_history = record { entries = []; turns = [] }

-- this history, of these calls
abbrev pub IsThis : History → List ElaboratedCall → HistoryRule
IsThis h calls other of = (other ≡ h) × (of ≡ calls)
