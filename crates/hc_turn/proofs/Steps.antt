-- Each step keeps the lock invariant.
use Rattle.std.proofs.Common.{◌≡◌, ℕ, zero, suc, ◌+◌, ◌-◌, ◌<◌, ◌≤◌, ◌⊎◌, inl, inr, true, false, true≢false, List, [], ◌∷◌, ◌++◌, length, get_or, set, sym, refl, ap, ◌∙◌, subst, ⊎_elim, append-nil, IsPermutation, arith, length-append}
use Rattle.std.specs.Prelude.{All, cond}
use Rattle.std.specs.List.{flat_map, range_with_len}
use Rattle.std.proofs.lemmas.List.Sums.{sum_by_push, get_or-le-sum_by}
use Rattle.std.proofs.lemmas.List.Concat.{flat_map-append}
use Rattle.std.proofs.lemmas.List.Elements.{All-nil, All-cons, All-head, All-tail, All-set, All-push, All-append, All-weaker}
use Rattle.std.proofs.lemmas.List.Sorted.{IsPermutation-refl, IsPermutation-trans, IsPermutation-append_left}
use mathlib.Core.Option.{some}
use mathlib.Core.List.{IsPrefix}
use lib.ListN.{get_elem?}
use Rattle.crossbeam_queue.specs.Fifo.{Pushes, Pops, Forks, Merges, Learns}
use Rattle.crossbeam_queue.proofs.Lists.{set_else}
use Rattle.hc_turn.specs.declared.view.View.{View}
use Rattle.hc_turn.specs.Views.{ArePrefixesOf, KnowsOneLog, places_of, maker, after_enter, after_leave, first_half, second_half, joined, spent}
use Rattle.hc_turn.specs.Rule.{holders, IsViewOf, LockInvariant, Enters}
use Rattle.hc_turn.proofs.Prefixes.{prefix_nil, prefix_same, prefix_trans, prefixes_trans, prefix-longer, prefixes-longer}
use Rattle.hc_turn.proofs.Changes.{All-there, sum_at, part_at, alone, grown, kept_at, moved}
use Rattle.hc_turn.proofs.Places.{places_of-append}

abbrev holds_bit : {I : Type 0} → View I → ℕ
holds_bit v = cond v.holds 1 0

abbrev mine_of : {I : Type 0} → View I → List ℕ
mine_of v = v.mine

abbrev share_of : {I : Type 0} → View I → ℕ
share_of v = v.share

turn_sum : (a b : ℕ) → ((a ≡ 1) × (b ≡ 0)) ⊎ ((a ≡ 0) × (b ≡ 1)) → a + b ≡ 1
turn_sum a b one = omega arith

one_turn : (a b : ℕ) → a + b ≡ 1 → ((a ≡ 1) × (b ≡ 0)) ⊎ ((a ≡ 0) × (b ≡ 1))
one_turn zero b one = inr (refl, omega arith)
one_turn (suc a) b one = inl (omega arith, omega arith)

module _ {I : Type 0} where
  spent_view : (log : List I) → IsViewOf log spent
  spent_view log = record { seen = prefix_nil log; kept = All-nil (λ list. IsPrefix list log); holder = λ no. absurd (true≢false (sym no)); share = inr refl }

  -- a pass without a share has no place
  idle : (log : List I) (v : View I) → IsViewOf log v → v.share ≡ 0 → v.mine ≡ []
  idle log v is none = ⊎_elim (λ (some_share : 0 < v.share). absurd (omega arith)) (λ (e : v ≡ spent). ap mine_of e) is.share

  -- what stays so of a pass when the log goes on
  abbrev GoesOn : List I → View I → Type 0
  GoesOn log v = IsPrefix v.seen log × ArePrefixesOf log v.kept × ((0 < v.share) ⊎ (v ≡ spent))

  goes_on : (old log : List I) → IsPrefix old log → (v : View I) → IsViewOf old v → GoesOn log v
  goes_on old log more v is = (prefix_trans v.seen old log is.seen more, prefixes_trans old log v.kept is.kept more, is.share)

  -- where no pass holds the turn, that is all
  no_holder : (log : List I) (views : List (View I)) → All (GoesOn log) views → holders views ≡ 0 → All (IsViewOf log) views
  no_holder log views all none k d here =
      let is : GoesOn log (get_or views k d) = all k d here in
      let part = get_or-le-sum_by holds_bit views k d here in
      record {
        seen = is.0;
        kept = is.1;
        holder = λ held. let b : holds_bit (get_or views k d) ≡ 1 = ap (λ t. cond t 1 0) held in absurd (omega arith);
        share = is.2;
      }

  -- the list that two passes have seen once they are one begins with what each had seen
  pub joined_begins : (v w u : View I) → u ≡ joined v w → KnowsOneLog u → IsPrefix v.seen u.seen × IsPrefix w.seen u.seen
  joined_begins v w u is one =
      let o : KnowsOneLog (joined v w) = subst KnowsOneLog is one in
      let P : List I → Type 0 = λ list. IsPrefix list o.0 in
      let kept = v.kept ++ w.kept in
      let begins = prefixes-longer v.seen w.seen o.0 (All-head P v.seen (w.seen ∷ kept) o.2) (All-head P w.seen kept (All-tail P v.seen (w.seen ∷ kept) o.2)) in
      subst (λ (x : View I). IsPrefix v.seen x.seen × IsPrefix w.seen x.seen) (sym is) begins

module _ {S I : Type 0} (log_of : S → List I) where
  none_of : {log : List I} (states : List S) → length states ≡ 0 → All (λ s. log_of s ≡ log) states
  none_of states none k d here = absurd (omega arith)

  pub begins : LockInvariant log_of [] (maker ∷ [])
  begins = record {
    turn = inr (refl, refl);
    log = [];
    state = All-nil (λ s. log_of s ≡ []);
    known = All-cons (IsViewOf []) maker [] (record { seen = prefix_nil []; kept = All-nil (λ list. IsPrefix list []); holder = λ _. refl; share = inl (omega arith) }) (All-nil (IsViewOf []));
    places = IsPermutation-refl [];
    shares = refl;
  }

  pub enters : (port : ℕ) (v : View I) → 0 < v.share → v.holds ≡ false → Pops (LockInvariant log_of) port v (λ state w. Enters v (log_of state) w)
  enters port v live free state states views h at =
      let log = log_of state in
      let w : View I = after_enter v log in
      let here : log ≡ h.log = All-head (λ s. log_of s ≡ h.log) state states h.state in
      let old : IsViewOf h.log v = All-there (IsViewOf h.log) views port v at h.known in
      let bit : holds_bit v ≡ 0 = ap (λ t. cond t 1 0) free in
      let one = turn_sum (length (state ∷ states)) (holders views) h.turn in
      let count = sum_at holds_bit views port v w at in
      let share = sum_at share_of views port v w at in
      let all = h.shares in (
        w,
        record {
          turn = one_turn (length states) (holders (set views port w)) (omega arith);
          log = h.log;
          state = All-tail (λ s. log_of s ≡ h.log) state states h.state;
          known = All-set (IsViewOf h.log) views port w (record { seen = prefix_same log h.log here; kept = All-nil (λ list. IsPrefix list h.log); holder = λ _. here; share = inl live }) h.known;
          places = subst (λ l. IsPermutation (places_of h.log) l) (sym (kept_at mine_of views port v w at refl)) h.places;
          shares = omega arith;
        },
        record {
          view = refl;
          seen = subst (λ l. IsPrefix v.seen l) (sym here) old.seen;
          kept = subst (λ l. ArePrefixesOf l v.kept) (sym here) old.kept;
          all = λ whole_share.
              let mine : flat_map mine_of views ≡ v.mine = alone share_of mine_of views port v at (All-weaker (IsViewOf h.log) (λ (u : View I). share_of u ≡ 0 → mine_of u ≡ []) (idle h.log) views h.known) (h.shares ∙ sym whole_share) in
              subst (λ l. IsPermutation (places_of l) v.mine) (sym here) (subst (λ l. IsPermutation (places_of h.log) l) mine h.places);
        },
      )

  -- the queue of a holder of the turn is empty
  pub empty : (port : ℕ) (v : View I) → Learns (LockInvariant log_of) port v (λ states. v.holds ≡ true → length states ≡ 0)
  empty port v states views h at held =
      let bit : holds_bit v ≡ 1 = ap (λ t. cond t 1 0) held in
      let part = part_at holds_bit views port v at in
      let one = turn_sum (length states) (holders views) h.turn in omega arith

  pub leaves : (n port : ℕ) (v : View I) (state : S) → 0 < v.share → v.holds ≡ true → IsPrefix v.seen (log_of state) → Pushes (LockInvariant log_of) n port v state (λ w. w ≡ after_leave v (log_of state))
  leaves n port v state live held more states views room h at =
      let log = log_of state in
      let w : View I = after_leave v log in
      let new = range_with_len (length v.seen) (length log - length v.seen) in
      let none : length states ≡ 0 = empty port v states views h at held in
      let bit : holds_bit v ≡ 1 = ap (λ t. cond t 1 0) held in
      let old : IsViewOf h.log v = All-there (IsViewOf h.log) views port v at h.known in
      let was : v.seen ≡ h.log = old.holder held in
      let goes : IsPrefix h.log log = subst (λ l. IsPrefix l log) was more in
      let one = turn_sum (length states) (holders views) h.turn in
      let count = sum_at holds_bit views port v w at in
      let nobody : holders (set views port w) ≡ 0 = omega arith in
      let share = sum_at share_of views port v w at in
      let all = h.shares in
      let queue : length (states ++ state ∷ []) ≡ length states + 1 = length-append states (state ∷ []) in
      let places : places_of log ≡ places_of h.log ++ new = places_of-append h.log v.seen log was more in
      let still : All (GoesOn log) (set views port w) = All-set (GoesOn log) views port w (prefix_same log log refl, prefixes_trans h.log log v.kept old.kept goes, inl live) (All-weaker (IsViewOf h.log) (GoesOn log) (goes_on h.log log goes) views h.known) in (
        w,
        record {
          turn = one_turn (length (states ++ state ∷ [])) (holders (set views port w)) (omega arith);
          log = log;
          state = All-push (λ s. log_of s ≡ log) states state (none_of states none) refl;
          known = no_holder log (set views port w) still nobody;
          places = subst (λ l. IsPermutation l (flat_map mine_of (set views port w))) (sym places) (IsPermutation-trans (places_of h.log ++ new) (flat_map mine_of views ++ new) (flat_map mine_of (set views port w)) (IsPermutation-append_left new (places_of h.log) (flat_map mine_of views) h.places) (grown mine_of views port v w new at refl));
          shares = omega arith;
        },
        refl,
      )

  pub splits : (port : ℕ) (v : View I) → 2 ≤ v.share → v.holds ≡ false → Forks (LockInvariant log_of) port v (first_half v) (second_half v)
  splits port v two free states views h at =
      let l : View I = first_half v in
      let r : View I = second_half v in
      let changed : List (View I) = set views port l in
      let old : IsViewOf h.log v = All-there (IsViewOf h.log) views port v at h.known in
      let bit : holds_bit v ≡ 0 = ap (λ t. cond t 1 0) free in
      let one = turn_sum (length states) (holders views) h.turn in
      let count = sum_at holds_bit views port v l at in
      let count' = sum_by_push holds_bit changed r in
      let share = sum_at share_of views port v l at in
      let share' = sum_by_push share_of changed r in
      let all = h.shares in
      let mine : flat_map mine_of (changed ++ r ∷ []) ≡ flat_map mine_of views =
      flat_map-append mine_of changed (r ∷ []) ∙ append-nil (flat_map mine_of changed) ∙ kept_at mine_of views port v l at refl in
      record {
        turn = one_turn (length states) (holders (changed ++ r ∷ [])) (omega arith);
        log = h.log;
        state = h.state;
        known = All-push (IsViewOf h.log) changed r
            (All-set (IsViewOf h.log) views port l (record { seen = old.seen; kept = old.kept; holder = old.holder; share = inl (omega arith) }) h.known)
            (record { seen = old.seen; kept = old.kept; holder = old.holder; share = inl (omega arith) });
        places = subst (λ l. IsPermutation (places_of h.log) l) (sym mine) h.places;
        shares = omega arith;
      }

  pub joins : (port : ℕ) (v : View I) (other : ℕ) (u : View I) → 0 < v.share → v.holds ≡ false → u.holds ≡ false → Merges (LockInvariant log_of) port v other u (joined v u) spent
  joins port v other u live free free' states views h at apart at' =
      let both : View I = joined v u in
      let changed : List (View I) = set views port both in
      let was : get_elem? views other ≡ some u = sym (set_else views port other both apart) ∙ at' in
      let mine : IsViewOf h.log v = All-there (IsViewOf h.log) views port v at h.known in
      let theirs : IsViewOf h.log u = All-there (IsViewOf h.log) views other u was h.known in
      let bit : holds_bit v ≡ 0 = ap (λ t. cond t 1 0) free in
      let bit' : holds_bit u ≡ 0 = ap (λ t. cond t 1 0) free' in
      let one = turn_sum (length states) (holders views) h.turn in
      let count = sum_at holds_bit views port v both at in
      let count' = sum_at holds_bit changed other u spent at' in
      let share = sum_at share_of views port v both at in
      let share' = sum_at share_of changed other u spent at' in
      let all = h.shares in
      let P : List I → Type 0 = λ list. IsPrefix list h.log in
      record {
        turn = one_turn (length states) (holders (set changed other spent)) (omega arith);
        log = h.log;
        state = h.state;
        known = All-set (IsViewOf h.log) changed other spent (spent_view h.log)
            (All-set (IsViewOf h.log) views port both
            (record {
              seen = prefix-longer v.seen u.seen h.log mine.seen theirs.seen;
              kept = All-cons P v.seen (u.seen ∷ (v.kept ++ u.kept)) mine.seen (All-cons P u.seen (v.kept ++ u.kept) theirs.seen (All-append P v.kept u.kept mine.kept theirs.kept));
              holder = λ no. absurd (true≢false (sym no));
              share = inl (omega arith);
            })
            h.known);
        places = IsPermutation-trans (places_of h.log) (flat_map mine_of views) (flat_map mine_of (set changed other spent)) h.places (moved mine_of views port other v u both spent at was apart refl refl);
        shares = omega arith;
      }

  pub one_log : (port : ℕ) (v : View I) → Learns (LockInvariant log_of) port v (λ states. KnowsOneLog v)
  one_log port v states views h at = let is : IsViewOf h.log v = All-there (IsViewOf h.log) views port v at h.known in (h.log, is.seen, is.kept)
