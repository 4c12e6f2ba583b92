-- The history of an elaboration is that of its calls.
use Rattle.std.proofs.Common.{◌≡◌, ◌<◌, ℕ, List, [], ◌++◌, map, length, refl, sym, ap, subst, ◌∙◌, arith, IsPermutation}
use Rattle.std.proofs.lemmas.List.Sorted.{IsPermutation-refl, IsPermutation-sym, IsPermutation-trans}
use Rattle.std.proofs.lemmas.Option.{slice_get_within}
use Rattle.hc_signal.specs.Member.{Has}
use Rattle.hc_signal.specs.Tree.{Tree}
use Rattle.hc_canon.specs.declared.form.EntryId.{EntryId}
use Rattle.hc_dbstate.specs.declared.hier.Hier.{Hier}
use Rattle.hc_dbstate.specs.declared.turns.Entered.{Entered}
use Rattle.hc_dbstate.specs.Elaboration.{CallView, walk}
use Rattle.hc_dbstate.specs.History.{History, IsLegal, log}
use Rattle.hc_dbstate.specs.Unfolding.{Denotes}
use Rattle.hc_canon.specs.FormView.{FormView}
use Rattle.hc_plan.specs.Distinct.{AreDistinct, none_left}
use Rattle.hc_plan.specs.Elaborates.{Elaborated, ElaboratedCall}
use Rattle.hc_plan.specs.Hierarchies.{AreCalled, AreEntriesOf, IsCallFor, IsHierarchyFor, LogsDistinct}
use Rattle.hc_lang.specs.declared.tree.Design.{Design}
use Rattle.hc_turn.specs.declared.view.View.{View}
use Rattle.hc_turn.specs.Views.{places_of, whole}
use Rattle.hc_db.specs.Inserting.{Finds}
use Rattle.hc_workers.specs.Owning.{OwnsDistinct, entries_at}
use Rattle.hc_cli.specs.declared.prepared.Kept.{Kept}
use Rattle.hc_cli.specs.Prepared.{history_in}
use Rattle.hc_cli.specs.Histories.{HistoryRule, IsHistoryInOrder, IsHistoryOf, IsOnce, entries_named, no_history}
use Rattle.hc_cli.proofs.Orders.{calls_follow, entries_at_all, entries_follow}

-- ---- the laws that this stands on

abbrev pub StandForCalls : Type 0
StandForCalls = (entries : List FormView) (hier : Hier) (e : Elaborated) (view : CallView) → IsHierarchyFor entries hier e → Has (walk hier) view → (c : ElaboratedCall)
    × Has e.calls c × IsCallFor entries view c

abbrev pub HaveCalls : Type 0
HaveCalls = (entries : List FormView) (hier : Hier) (e : Elaborated) (c : ElaboratedCall) → IsHierarchyFor entries hier e → Has e.calls c → (view : CallView) × Has (walk hier) view
    × IsCallFor entries view c

abbrev pub AreCalledByTurns : Type 0
AreCalledByTurns = (h : History) (hier : Hier) (e : Elaborated) (firsts order : List ElaboratedCall) → IsLegal h → IsHierarchyFor h.entries hier e → AreDistinct e.calls firsts
    → IsPermutation order firsts → AreEntriesOf h.entries (entries_named h) order → AreCalled h.entries hier

abbrev pub LogsHaveTurns : Type 0
LogsHaveTurns = (h : History) → IsLegal h → map (λ (x : Entered). x.entry) (log h) ≡ entries_named h

abbrev pub HaveOneEntry : Type 0
HaveOneEntry = (h : History) (i j : EntryId) (t : Tree) → IsLegal h → i.0 < length h.entries → j.0 < length h.entries → Denotes h.entries i t → Denotes h.entries j t → i ≡ j

-- ---- the history of calls

module _ (stand : StandForCalls) (stood_for : HaveCalls) (one_entry : HaveOneEntry) (h : History) (hier : Hier) (e : Elaborated) (legal : IsLegal h) (for : IsHierarchyFor h.entries hier e) where
  pub once_of : (c : ElaboratedCall) → Has e.calls c → IsOnce h.entries c.tree
  once_of c has =
      let view = stood_for h.entries hier e c for has in
      let over = for.elaboration.calls view.0 view.1 in
      let within = slice_get_within h.entries view.0.own.entry.0 over.form over.found in
      (view.0.own.entry, (within, view.2.tree), λ other is. one_entry h other view.0.own.entry c.tree legal is.0 within is.1 view.2.tree)

  pub only_calls : AreCalled h.entries hier → (id : EntryId) → id.0 < length h.entries → (c : ElaboratedCall) × Has e.calls c × Denotes h.entries id c.tree
  only_calls called id within =
      let view = called id within in
      let call = stand h.entries hier e view.0 for view.1 in
      (call.0, call.1, subst (λ (id : EntryId). Denotes h.entries id call.0.tree) view.2 call.2.tree)

  -- turns of the distinct calls, in any order
  abbrev pub history_is : (firsts : List ElaboratedCall) (ids : List EntryId) → AreDistinct e.calls firsts → AreEntriesOf h.entries ids firsts
      → IsPermutation (entries_named h) ids → AreCalled h.entries hier → IsHistoryOf h e.calls
  history_is firsts ids distinct denoted turns called = record {
    legal = legal;
    firsts = firsts;
    distinct = distinct;
    ids = ids;
    denoted = denoted;
    turns = turns;
    once = once_of;
    only = only_calls called;
  }

-- ---- the turns of one elaboration

empty_log : log no_history ≡ []
unfolding log
empty_log = refl

module _ (logs_have : LogsHaveTurns) (h : History) (e : Elaborated) (legal : IsLegal h) (logs : LogsDistinct no_history h e) where
  turns_added : map (λ (x : Entered). x.entry) logs.added ≡ entries_named h
  turns_added = ap (map (λ (x : Entered). x.entry)) (ap (λ (l : List Entered). l ++ logs.added) (sym empty_log) ∙ sym logs.log) ∙ logs_have h legal

  turns_of_firsts : AreEntriesOf h.entries (entries_named h) logs.firsts
  turns_of_firsts = subst (λ (ids : List EntryId). AreEntriesOf h.entries ids logs.firsts) turns_added logs.turns

  pub called_of : AreCalledByTurns → (hier : Hier) → IsHierarchyFor h.entries hier e → AreCalled h.entries hier
  called_of called hier for = called h hier e logs.firsts logs.firsts legal for logs.distinct (IsPermutation-refl logs.firsts) turns_of_firsts

  pub in_order_of : StandForCalls → HaveCalls → HaveOneEntry → AreCalledByTurns → (hier : Hier) → IsHierarchyFor h.entries hier e → IsHistoryInOrder h e.calls
  in_order_of stand stood_for one_entry called hier for = record {
    history = history_is stand stood_for one_entry h hier e legal for logs.firsts (entries_named h) logs.distinct turns_of_firsts (IsPermutation-refl (entries_named h)) (called_of called hier for);
    in_order = turns_of_firsts;
  }

-- ---- the turns that a pass owns

module _ (logs_have : LogsHaveTurns) (d : Design) (w : View Entered) (hier : Hier) (h : History) (legal : IsLegal h) (owns : OwnsDistinct d (whole []) w hier) (finds : Finds w h)
    (order : IsPermutation (places_of (log h)) w.mine) where
  pub owned_for : IsHierarchyFor h.entries hier owns.e
  owned_for = owns.hierarchy h finds

  abbrev ids_owned : List EntryId
  ids_owned = entries_at (log h) owns.places

  named : IsPermutation (entries_named h) ids_owned
  named =
      subst (λ (l : List EntryId). IsPermutation l ids_owned) (logs_have h legal)
      (entries_at_all (log h) owns.places (subst (λ (l : List ℕ). IsPermutation (places_of (log h)) l) owns.mine order))

  owned_turns : AreEntriesOf h.entries ids_owned owns.order
  owned_turns = owns.turns h finds

  pub owned_called : AreCalledByTurns → AreCalled h.entries hier
  owned_called called =
      let taken = calls_follow h.entries ids_owned (entries_named h) owns.order owned_turns (IsPermutation-sym (entries_named h) ids_owned named) in
      called h hier owns.e owns.firsts taken.0 legal owned_for owns.distinct
      (IsPermutation-trans taken.0 owns.order owns.firsts (IsPermutation-sym owns.order taken.0 taken.1) owns.same) taken.2

  pub owned_history : StandForCalls → HaveCalls → HaveOneEntry → AreCalledByTurns → IsHistoryOf h owns.e.calls
  owned_history stand stood_for one_entry called =
      let ids = entries_follow h.entries ids_owned owns.order owns.firsts owned_turns owns.same in
      history_is stand stood_for one_entry h hier owns.e legal owned_for owns.firsts ids.0 owns.distinct ids.2
      (IsPermutation-trans (entries_named h) ids_owned ids.0 named ids.1) (owned_called called)

-- ---- nothing is the history of no calls

pub none_legal : IsLegal no_history
none_legal = record {
  turns = λ k t e. cc;
  many = refl;
  different = λ i j form a b. cc;
  forms = λ k form a. cc;
  kids = λ k form id a h. cc;
}

abbrev pub no_calls : IsHistoryOf no_history []
no_calls = record {
  legal = none_legal;
  firsts = [];
  distinct = none_left;
  ids = [];
  denoted = tt;
  turns = IsPermutation-refl [];
  once = λ c h. elim h [ ];
  only = λ id lt. absurd (omega (arith, lt));
}

pub no_calls_in_order : IsHistoryInOrder no_history []
no_calls_in_order = record { history = no_calls; in_order = tt }

-- a history that is kept
pub history_of_kept : (Rule : HistoryRule) (k : Kept) (h : History) (calls : List ElaboratedCall) → history_in k ≡ h → Rule h calls → Rule (history_in k) calls
history_of_kept Rule k h calls e is = subst (λ (g : History). Rule g calls) (sym e) is
