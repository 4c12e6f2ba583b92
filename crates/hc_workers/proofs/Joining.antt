-- Passes that are split for two halves, and joined.
use Rattle.std.proofs.Common.{◌≡◌, ℕ, zero, suc, ◌+◌, ◌-◌, ◌/◌, ◌≤◌, ◌⊎◌, inl, inr, List, [], ◌∷◌, ◌++◌, take, drop, refl, sym, ap, ap₂, subst, ◌∙◌, append_assoc, arith}
use Rattle.std.specs.Prelude.{Option, Result, Ok, Err, IfOk, IsOkAnd, Vec}
use mathlib.Core.List.{IsPrefix}
use Rattle.hc_signal.specs.Member.{Has, first, later}
use Rattle.hc_paths.specs.declared.kinds.Paths.{Paths}
use Rattle.hc_canon.specs.declared.form.EntryId.{EntryId}
use Rattle.hc_dbstate.specs.declared.turns.Entered.{Entered}
use Rattle.hc_turn.specs.declared.logged.Logged.{Ghosts}
use Rattle.hc_turn.specs.declared.lock.Pass.{Pass}
use Rattle.hc_turn.specs.declared.lock.TurnLock.{TurnLock}
use Rattle.hc_turn.specs.declared.view.View.{View}
use Rattle.hc_turn.specs.Passes.{IsOf, known, seen, share}
use Rattle.hc_turn.specs.Views.{first_half, joined, second_half}
use Rattle.hc_db.specs.OwnTurns.{KnowsTurn}
use Rattle.hc_plan.specs.Finishing.{Outcome}
use Rattle.hc_plan.specs.Stepping.{outcome_of, outs_of}
use Rattle.hc_plan.specs.declared.kinds.PlanRow.{PlanRow}
use Rattle.hc_workers.specs.Working.{AreFinishedAt, ComesBack, IsJoined, Keeps, KnowsOuts, MayFinish}
use Rattle.hc_workers.proofs.Knowing.{both_finished, prefix_through}

-- a pass that two were joined into knows what they knew
abbrev pub JoinsKnow : Type 0
JoinsKnow = (v w : View Entered) (p : ℕ) (t : Entered) → KnowsTurn v p t ⊎ KnowsTurn w p t → KnowsTurn (joined v w) p t

has_take : (k : ℕ) (xs : List ℕ) (x : ℕ) → Has (take k xs) x → Has xs x
has_take zero xs x h = elim h [ ]
has_take (suc k) [] x h = elim h [ ]
has_take (suc k) (y ∷ xs) x first = first
has_take (suc k) (y ∷ xs) x (later h) = later (has_take k xs x h)

has_drop : (k : ℕ) (xs : List ℕ) (x : ℕ) → Has (drop k xs) x → Has xs x
has_drop zero xs x h = h
has_drop (suc k) [] x h = elim h [ ]
has_drop (suc k) (y ∷ xs) x h = later (has_drop k xs x h)

outs_both : (xs ys : List (Option (EntryId × Paths))) → outs_of (xs ++ ys) ≡ outs_of xs ++ outs_of ys
outs_both [] ys = refl
outs_both (x ∷ xs) ys = ap (λ l. outcome_of x ∷ l) (outs_both xs ys)

module _ {S : Type 0} {G : Ghosts S Entered} (lock : TurnLock S Entered) where
  module _ (pass : Pass S Entered G) (workers : ℕ) (rows : List PlanRow) (outs : List Outcome) (places : List ℕ) (may : MayFinish lock pass workers rows outs places) (two : 2 ≤ workers) where
    -- what the first of two passes may finish
    pub first_may : (half : Pass S Entered G) (k : ℕ) → IsOf lock half → known half ≡ first_half (known pass) → MayFinish lock half (workers - workers / 2) rows outs (take k places)
    first_may half k is_of is =
        let shares : share half ≡ (share pass + 1) / 2 = ap (λ (v : View Entered). v.share) is in
        let enough : workers ≤ share pass = may.many in
        record {
          is_of = is_of;
          free = ap (λ (v : View Entered). v.holds) is ∙ may.free;
          some = omega (arith, two);
          many = omega (arith, two, shares, enough);
          knows = subst (λ (v : View Entered). KnowsOuts v outs) (sym is) may.knows;
          ready = λ j h. may.ready j (has_take k places j h);
        }

    -- what the second of two passes may finish
    pub second_may : (half : Pass S Entered G) (k : ℕ) → IsOf lock half → known half ≡ second_half (known pass) → MayFinish lock half (workers / 2) rows outs (drop k places)
    second_may half k is_of is =
        let shares : share half ≡ share pass / 2 = ap (λ (v : View Entered). v.share) is in
        let enough : workers ≤ share pass = may.many in
        record {
          is_of = is_of;
          free = ap (λ (v : View Entered). v.holds) is ∙ may.free;
          some = omega (arith, two);
          many = omega (arith, two, shares, enough);
          knows = subst (λ (v : View Entered). KnowsOuts v outs) (sym is) may.knows;
          ready = λ j h. may.ready j (has_drop k places j h);
        }

  -- the joined pass knows what the first knew
  pub is_joined : (one two a b after : Pass S Entered G) → JoinsKnow → ComesBack lock one a → ComesBack lock two b → known after ≡ joined (known a) (known b)
      → IsOf lock after → IsPrefix (seen a) (seen after) → IsJoined lock one two after
  is_joined one two a b after know left right is is_of begins =
      let shares : share after ≡ share a + share b = ap (λ (v : View Entered). v.share) is in
      let p : share a ≡ share one = left.share in
      let q : share b ≡ share two = right.share in
      record {
        is_of = is_of;
        free = ap (λ (v : View Entered). v.holds) is;
        share = shares ∙ ap₂ (λ (m n : ℕ). m + n) p q;
        seen = prefix_through (seen one) (seen a) (seen after) left.seen begins;
        keeps = subst (λ (v : View Entered). Keeps (known one) v) (sym is) (λ n t knows. know (known a) (known b) n t (inl (left.keeps n t knows)));
      }

  -- a pass that was split and joined comes back
  pub halves_back : (pass one two after : Pass S Entered G) → known one ≡ first_half (known pass) → known two ≡ second_half (known pass) → IsJoined lock one two after → ComesBack lock pass after
  halves_back pass one two after p q j =
      let left : share one ≡ (share pass + 1) / 2 = ap (λ (v : View Entered). v.share) p in
      let right : share two ≡ share pass / 2 = ap (λ (v : View Entered). v.share) q in
      let both : share after ≡ share one + share two = j.share in
      record {
        is_of = j.is_of;
        free = j.free;
        share = omega (arith, left, right, both);
        seen = subst (λ l. IsPrefix l (seen after)) (ap (λ (v : View Entered). v.seen) p) j.seen;
        keeps = subst (λ (v : View Entered). Keeps v (known after)) p j.keeps;
      }

-- what both halves finished
pub halves_finish : {E Z : Type 0} (v u x y w : View Entered) (rows : List PlanRow) (outs : List Outcome) (front back : List ℕ) (a b r : Result (Vec (Option (EntryId × Paths)) Z) E)
    → JoinsKnow → w ≡ joined x y → u.mine ≡ []
    → IfOk a (λ list. AreFinishedAt v x rows outs front (outs_of list.items)) → IfOk b (λ list. AreFinishedAt u y rows outs back (outs_of list.items))
    → IfOk r (λ list. IsOkAnd a (λ p. IsOkAnd b (λ q. list.items ≡ p.items ++ q.items))) → IfOk r (λ list. AreFinishedAt v w rows outs (front ++ back) (outs_of list.items))
halves_finish v u x y w rows outs front back a b (Err e) know is none one two both = tt
halves_finish v u x y w rows outs front back (Err e) b (Ok list) know is none one two both = absurd both
halves_finish v u x y w rows outs front back (Ok p) (Err e) (Ok list) know is none one two both = absurd both
halves_finish v u x y w rows outs front back (Ok p) (Ok q) (Ok list) know is none one two both =
    subst (λ l. AreFinishedAt v w rows outs (front ++ back) l) (sym (ap outs_of both ∙ outs_both p.items q.items))
    (both_finished v u x y w rows outs front back (outs_of p.items) (outs_of q.items) one two left right mine)
  where
    left : Keeps x w
    left = subst (λ (z : View Entered). Keeps x z) (sym is) (λ n t knows. know x y n t (inl knows))

    right : Keeps y w
    right = subst (λ (z : View Entered). Keeps y z) (sym is) (λ n t knows. know x y n t (inr knows))

    mine : (ps qs : List ℕ) → x.mine ≡ v.mine ++ ps → y.mine ≡ u.mine ++ qs → w.mine ≡ v.mine ++ (ps ++ qs)
    mine ps qs m n = ap (λ (z : View Entered). z.mine) is ∙ ap₂ (λ (k l : List ℕ). k ++ l) m (n ∙ ap (λ l. l ++ qs) none) ∙ append_assoc v.mine ps qs
