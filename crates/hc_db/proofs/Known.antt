-- The entries that a pass knows.
use Rattle.std.proofs.Common.{◌≡◌, ◌⊎◌, ◌<◌, inl, inr, refl, sym, subst, ⊎_elim, List, [], ◌∷◌, ◌++◌, length}
use Rattle.std.specs.Prelude.{slice_get, Some, All}
use Rattle.std.proofs.lemmas.Option.{slice_get_within}
use Rattle.std.proofs.lemmas.List.Elements.{All-head, All-tail}
use mathlib.Core.List.{IsPrefix}
use Rattle.hc_signal.specs.Member.{Has, first, later}
use Rattle.hc_canon.specs.declared.form.EntryId.{EntryId}
use Rattle.hc_canon.specs.FormView.{FormView}
use Rattle.hc_dbstate.specs.declared.turns.Entered.{Entered}
use Rattle.hc_dbstate.specs.History.{History, log, entered}
use Rattle.hc_turn.specs.declared.view.View.{View}
use Rattle.hc_turn.specs.Views.{joined}
use Rattle.hc_db.specs.Inserting.{Names, KnowsEntry, Finds, Inserts, InsertsNothing}

module _ {X : Type 0} where
  has_left : (xs ys : List X) (x : X) → Has xs x → Has (xs ++ ys) x
  has_left [] ys x h = elim h [ ]
  has_left (y ∷ xs) ys x first = first
  has_left (y ∷ xs) ys x (later h) = later (has_left xs ys x h)

  has_right : (xs ys : List X) (x : X) → Has ys x → Has (xs ++ ys) x
  has_right [] ys x h = h
  has_right (y ∷ xs) ys x h = later (has_right xs ys x h)

  -- what holds of all holds of each
  pub All-has : (P : X → Type 0) (xs : List X) (x : X) → All P xs → Has xs x → P x
  All-has P [] x all h = elim h [ ]
  All-has P (y ∷ xs) x all first = All-head P y xs all
  All-has P (y ∷ xs) x all (later h) = All-has P xs x (All-tail P y xs all) h

names_on : (turns log : List Entered) (id : EntryId) → IsPrefix turns log → Names turns id → Names log id
names_on turns log id begins named = (named.0, subst (λ l. Has l named.0) begins.1 (has_left turns begins.0 named.0 named.1), named.2)

-- a turn of the history that it finds names the entry
found_names : (v : View Entered) (h : History) (id : EntryId) → Finds v h → KnowsEntry v id → Names (log h) id
found_names v h id found knows =
    ⊎_elim
    (λ (named : Names v.seen id). names_on v.seen (log h) id found.seen named)
    (λ (list : (turns : List Entered) × Has v.kept turns × Names turns id). names_on list.0 (log h) id (All-has (λ turns. IsPrefix turns (log h)) v.kept list.0 found.kept list.1) list.2)
    knows

pub are_there : (v : View Entered) (h : History) (id : EntryId) → ((e : Entered) → Has (log h) e → slice_get h.entries e.entry.0 ≡ Some e.form) → Finds v h → KnowsEntry v id → id.0 < length h.entries
are_there v h id forms found knows =
    let named = found_names v h id found knows in
    let e = named.0 in
    subst (λ (k : EntryId). k.0 < length h.entries) named.2 (slice_get_within h.entries e.entry.0 e.form (forms e named.1))

pub knows_own : (v w : View Entered) (form : FormView) (id : EntryId) → Inserts v form id w → KnowsEntry w id
knows_own v w form id i =
    let e : Entered = entered id i.inserted.fresh form in
    let named : Names (log i.old ++ e ∷ []) id = (e, has_right (log i.old) (e ∷ []) e first, refl) in
    subst (λ (u : View Entered). KnowsEntry u id) (sym i.known) (inl named)

pub knows_after : (v w : View Entered) (form : FormView) (id k : EntryId) → Inserts v form id w → KnowsEntry v k → KnowsEntry w k
knows_after v w form id k i knows =
    let e : Entered = entered id i.inserted.fresh form in
    let named : Names (log i.old ++ e ∷ []) k = names_on (log i.old) (log i.old ++ e ∷ []) k (e ∷ [], refl) (found_names v i.old k i.found knows) in
    subst (λ (u : View Entered). KnowsEntry u k) (sym i.known) (inl named)

pub knows_still : (v w : View Entered) (k : EntryId) → InsertsNothing v w → KnowsEntry v k → KnowsEntry w k
knows_still v w k i knows = subst (λ (u : View Entered). KnowsEntry u k) (sym i.known) (inl (found_names v i.history k i.found knows))

pub knows_joined : (v w : View Entered) (k : EntryId) → KnowsEntry v k ⊎ KnowsEntry w k → KnowsEntry (joined v w) k
knows_joined v w k (inl (inl named)) = inr (v.seen, first, named)
knows_joined v w k (inl (inr list)) = inr (list.0, later (later (has_left v.kept w.kept list.0 list.1)), list.2)
knows_joined v w k (inr (inl named)) = inr (w.seen, later first, named)
knows_joined v w k (inr (inr list)) = inr (list.0, later (later (has_right v.kept w.kept list.0 list.1)), list.2)
