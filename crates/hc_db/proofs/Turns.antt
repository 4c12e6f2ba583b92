-- What a turn in which a form is inserted does to the log and to the pass.
use Rattle.std.proofs.Common.{◌≡◌, ◌⊎◌, ℕ, zero, suc, ◌+◌, inl, inr, refl, sym, ap, ◌∙◌, subst, List, [], ◌∷◌, ◌++◌, length, append_assoc, append-nil, IsPermutation, arith, length-append}
use Rattle.std.specs.Prelude.{Result, Ok, Err, IfOk, OnErr}
use Rattle.std.specs.List.{range_with_len}
use Rattle.std.proofs.lemmas.List.Elements.{All-weaker}
use Rattle.std.proofs.lemmas.List.Sorted.{IsPermutation-append_left}
use mathlib.Core.List.{IsPrefix}
use Rattle.hc_canon.specs.declared.form.EntryId.{EntryId}
use Rattle.hc_canon.specs.FormView.{FormView}
use Rattle.hc_dbstate.specs.declared.turns.Entered.{Entered}
use Rattle.hc_dbstate.specs.History.{History, IsLegal, log, entered}
use Rattle.hc_dbstate.specs.Insertion.{IsInserted}
use Rattle.hc_turn.specs.declared.view.View.{View}
use Rattle.hc_turn.specs.Views.{ArePrefixesOf, AddsAtMostOne, after_enter, left_as_it_was, left_with, places_of}
use Rattle.hc_db.specs.Inserting.{Finds, Inserts}

pub log_nothing : log (record { entries = []; turns = [] }) ≡ []
unfolding log
log_nothing = refl

module _ {X : Type 0} where
  prefix_through : (xs ys zs : List X) → IsPrefix xs ys → IsPrefix ys zs → IsPrefix xs zs
  prefix_through xs ys zs p q = (p.0 ++ q.0, sym (append_assoc xs p.0 q.0) ∙ (ap (λ l. l ++ q.0) p.1 ∙ q.1))

  prefix_of_more : (old new : List X) → AddsAtMostOne old new → IsPrefix old new
  prefix_of_more old new (inl same) = ([], append-nil old ∙ sym same)
  prefix_of_more old new (inr more) = (more.0 ∷ [], sym more.1)

  -- what begins with these lists still does when it grows
  pub grows : (xs old new now : List X) (lists : List (List X)) → now ≡ new → AddsAtMostOne old new → IsPrefix xs old → ArePrefixesOf old lists → IsPrefix xs now × ArePrefixesOf now lists
  grows xs old new now lists is more begins all =
      let step : IsPrefix old now = subst (λ l. IsPrefix old l) (sym is) (prefix_of_more old new more) in
      (prefix_through xs old now begins step, All-weaker (λ ys. IsPrefix ys old) (λ ys. IsPrefix ys now) (λ ys p. prefix_through ys old now p step) lists all)

module _ {E : Type 0} (old new : History) (form : FormView) where
  -- an insertion adds a turn, or none
  pub adds : (answer : Result EntryId E) → IfOk answer (λ id. IsInserted old new form id) → OnErr answer (new ≡ old) → AddsAtMostOne (log old) (log new)
  adds (Ok id) inserted same = inr (entered id inserted.fresh form, inserted.log)
  adds (Err e) inserted same = inl (ap log same)

  module _ (v held w : View Entered) (found : Finds v old) (legal : IsLegal new) (holds : held ≡ after_enter v (log old)) where
    pub inserts : (answer : Result EntryId E) → IfOk answer (λ id. IsInserted old new form id)
        → ((e : Entered) → log new ≡ held.seen ++ e ∷ [] → w ≡ left_with held e)
        → IfOk answer (λ id. Inserts v form id w)
    inserts (Ok id) inserted more =
        let e : Entered = entered id inserted.fresh form in
        record {
          old = old;
          new = new;
          found = found;
          inserted = inserted;
          legal = legal;
          known = more e (inserted.log ∙ ap (λ (u : View Entered). u.seen ++ e ∷ []) (sym holds)) ∙ ap (λ (u : View Entered). left_with u e) holds;
        }
    inserts (Err e) inserted more = tt

-- the places of a log that is one item longer
range_push : (a n : ℕ) → range_with_len a (n + 1) ≡ range_with_len a n ++ (a + n) ∷ []
range_push a zero = let e : a ≡ a + 0 = omega arith in ap (λ k. k ∷ []) e
range_push a (suc n) = let e : (a + 1) + n ≡ a + suc n = omega arith in let one : suc n + 1 ≡ suc (n + 1) = omega arith in ap (range_with_len a) one
    ∙ ap (λ l. a ∷ l) (range_push (a + 1) n ∙ ap (λ k. range_with_len (a + 1) n ++ k ∷ []) e)

places_push : {I : Type 0} (log : List I) (item : I) → places_of (log ++ item ∷ []) ≡ places_of log ++ length log ∷ []
places_push log item = ap (range_with_len 0) (length-append log (item ∷ [])) ∙ range_push 0 (length log) ∙ ap (λ k. places_of log ++ k ∷ []) (let e : 0 + length log ≡ length log = omega arith in e)

-- who owned each place of the log when it took the turn owns each place of what it leaves
pub owns_all : (v held w : View Entered) (old new : List Entered) → held ≡ after_enter v old → AddsAtMostOne old new → (new ≡ held.seen → w ≡ left_as_it_was held)
    → ((e : Entered) → new ≡ held.seen ++ e ∷ [] → w ≡ left_with held e)
    → IsPermutation (places_of old) v.mine → IsPermutation (places_of w.seen) w.mine
owns_all v held w old new holds (inl same) stays more all =
    let seen : old ≡ held.seen = sym (ap (λ (u : View Entered). u.seen) holds) in
    let is : w ≡ left_as_it_was (after_enter v old) = stays (same ∙ seen) ∙ ap left_as_it_was holds in
    subst (λ (u : View Entered). IsPermutation (places_of u.seen) u.mine) (sym is) all
owns_all v held w old new holds (inr (e, grown)) stays more all =
    let seen : old ≡ held.seen = sym (ap (λ (u : View Entered). u.seen) holds) in
    let is : w ≡ left_with (after_enter v old) e = more e (grown ∙ ap (λ l. l ++ e ∷ []) seen) ∙ ap (λ (u : View Entered). left_with u e) holds in
    subst (λ (u : View Entered). IsPermutation (places_of u.seen) u.mine) (sym is)
    (subst (λ l. IsPermutation l (v.mine ++ length old ∷ [])) (sym (places_push old e)) (IsPermutation-append_left (length old ∷ []) (places_of old) v.mine all))
