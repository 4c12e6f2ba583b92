-- Summaries exist. Whether two trees are the same is not decided here, so that each number of kinds is told by contradiction.
use Rattle.std.proofs.Common.{◌≡◌, ◌⊎◌, inl, inr, ℕ, zero, suc, List, [], ◌∷◌, map, length, refl, sym, ap, subst, ◌∙◌}
use Rattle.hc_bench.specs.Listing.{CycleRow}
use Rattle.hc_plan.specs.Elaborates.{Elaborated, ElaboratedCall}
use Rattle.hc_signal.specs.Member.{Has, first, later}
use Rattle.hc_signal.specs.Occurrences.{IsReachedPath, tree_at}
use Rattle.hc_signal.specs.Tree.{Tree}
use Rattle.hc_walk.proofs.Members.{has_map, has_slice}
use Rattle.hc_canon.specs.Same.{Same}
use Rattle.hc_summary.specs.Kinds.{AreApart, IsNumberOfKinds}
use Rattle.hc_summary.specs.Summary.{AreCountsOf, Counts, IsCallTree, IsReachedTree, IsSummary, summary_text}

-- ---- what is not refuted

abbrev NotNot : Type 0 → Type 0
NotNot A = (A → ⊥) → ⊥

surely : {A : Type 0} → A → NotNot A
surely x none = none x

surely_then : {A B : Type 0} → NotNot A → (A → NotNot B) → NotNot B
surely_then x f none = x (λ a. f a none)

decided : (A : Type 0) → NotNot (A ⊎ (A → ⊥))
decided A none = none (inr (λ a. none (inl a)))

-- ---- kinds

abbrev pub IsReflexive : Type 0
IsReflexive = (t : Tree) → Same t t

abbrev pub IsSymmetric : Type 0
IsSymmetric = (s t : Tree) → Same s t → Same t s

-- one of the trees is the same
abbrev IsKnown : List Tree → Tree → Type 0
IsKnown ts t = (k : Tree) × Has ts k × Same k t

-- the kinds of those of the trees that P holds of
record HasKinds (P : Tree → Type 0) (ts : List Tree) : Type 0 where
  kinds : List Tree
  some : (t : Tree) → Has kinds t → P t
  apart : AreApart kinds
  all : (t : Tree) → Has ts t → P t → IsKnown kinds t

no_kinds : (P : Tree → Type 0) → HasKinds P []
no_kinds P = record { kinds = []; some = λ t h. elim h [ ]; apart = λ i j s t x y same. cc; all = λ t h p. elim h [ ] }

module _ (reflexive : IsReflexive) (symmetric : IsSymmetric) (P : Tree → Type 0) where
  -- a tree that P does not hold of, or that is the same as a known one
  passed : (x : Tree) (ts : List Tree) (k : HasKinds P ts) → (P x → IsKnown k.kinds x) → HasKinds P (x ∷ ts)
  passed x ts k known = record { kinds = k.kinds; some = k.some; apart = k.apart; all = all }
    where
      all : (t : Tree) → Has (x ∷ ts) t → P t → IsKnown k.kinds t
      all t first p = known p
      all t (later h) p = k.all t h p

  -- a tree that P holds of, and that is the same as no known one
  taken : (x : Tree) (ts : List Tree) (k : HasKinds P ts) → P x → (IsKnown k.kinds x → ⊥) → HasKinds P (x ∷ ts)
  taken x ts k own anew = record { kinds = x ∷ k.kinds; some = some; apart = apart; all = all }
    where
      some : (t : Tree) → Has (x ∷ k.kinds) t → P t
      some t first = own
      some t (later h) = k.some t h

      apart : AreApart (x ∷ k.kinds)
      apart zero zero s t a b same = refl
      apart zero (suc j) s t a b same =
          let is : x ≡ s = cc in
          absurd (anew (t, has_slice k.kinds j t b, symmetric x t (subst (λ (u : Tree). Same u t) (sym is) same)))
      apart (suc i) zero s t a b same =
          let is : x ≡ t = cc in
          absurd (anew (s, has_slice k.kinds i s a, subst (λ (u : Tree). Same s u) (sym is) same))
      apart (suc i) (suc j) s t a b same = ap suc (k.apart i j s t a b same)

      all : (t : Tree) → Has (x ∷ ts) t → P t → IsKnown (x ∷ k.kinds) t
      all t first p = (x, first, reflexive x)
      all t (later h) p = let a : IsKnown k.kinds t = k.all t h p in (a.0, later a.1, a.2)

  one_more : (x : Tree) (ts : List Tree) → HasKinds P ts → NotNot (HasKinds P (x ∷ ts))
  one_more x ts k = surely_then (decided (P x)) (λ (p : P x ⊎ (P x → ⊥)). elim p [
    | inr lacks ↦ surely (passed x ts k (λ own. absurd (lacks own)))
    | inl own ↦ surely_then (decided (IsKnown k.kinds x)) (λ (q : IsKnown k.kinds x ⊎ (IsKnown k.kinds x → ⊥)). elim q [
      | inl known ↦ surely (passed x ts k (λ again. known))
      | inr anew ↦ surely (taken x ts k own anew)
    ])
  ])

  some_kinds : (ts : List Tree) → NotNot (HasKinds P ts)
  some_kinds [] = surely (no_kinds P)
  some_kinds (x ∷ ts) = surely_then (some_kinds ts) (λ (k : HasKinds P ts). one_more x ts k)

  -- where all that P holds of are among some trees, P has a number of kinds
  numbered : (ts : List Tree) → ((t : Tree) → P t → Has ts t) → NotNot ((n : ℕ) × IsNumberOfKinds P n)
  numbered ts among = surely_then (some_kinds ts) (λ (k : HasKinds P ts).
      surely (length k.kinds, record { kinds = k.kinds; many = refl; some = k.some; apart = k.apart; all = λ t p. k.all t (among t p) p }))

-- ---- summaries

abbrev trees_of : List ElaboratedCall → List Tree
trees_of calls = map (λ (c : ElaboratedCall). c.tree) calls

call_among : (calls : List ElaboratedCall) (t : Tree) → IsCallTree calls t → Has (trees_of calls) t
call_among calls t (call, has, is) = subst (Has (trees_of calls)) (sym is) (has_map (λ (c : ElaboratedCall). c.tree) has)

-- each tree that the top reaches is that of a call
abbrev pub ReachedAreCalled : Elaborated → Type 0
ReachedAreCalled e = (path : List ℕ) → IsReachedPath e.tree path → (c : ElaboratedCall) × Has e.calls c × (c.tree ≡ tree_at e.tree path)

reached_among : (e : Elaborated) → ReachedAreCalled e → (t : Tree) → IsReachedTree e.tree t → Has (trees_of e.calls) t
reached_among e called t (path, reached, is) =
    let c : (c : ElaboratedCall) × Has e.calls c × (c.tree ≡ tree_at e.tree path) = called path reached in
    call_among e.calls t (c.0, c.1, is ∙ sym c.2)

counts_of : Elaborated → List CycleRow → ℕ → ℕ → Counts
counts_of e rows entries modules = record { instances = e.sums.instances; entries = entries; modules = modules; weight = e.sums.weight; words = e.sums.words; cycles = length rows }

are_counts : (e : Elaborated) (rows : List CycleRow) (entries modules : ℕ) → IsNumberOfKinds (IsCallTree e.calls) entries → IsNumberOfKinds (IsReachedTree e.tree) modules
    → AreCountsOf e rows (counts_of e rows entries modules)
unfolding counts_of
are_counts e rows entries modules a b = record { instances = refl; entries = a; modules = b; weight = refl; words = refl; cycles = refl }

-- No elaborated design and rows are without a summary.
pub some_summary : IsReflexive → IsSymmetric → (e : Elaborated) (rows : List CycleRow) → ReachedAreCalled e → NotNot ((text : List ℕ) × IsSummary e rows text)
some_summary reflexive symmetric e rows called =
    surely_then (numbered reflexive symmetric (IsCallTree e.calls) (trees_of e.calls) (call_among e.calls)) (λ (n : (n : ℕ) × IsNumberOfKinds (IsCallTree e.calls) n).
    surely_then (numbered reflexive symmetric (IsReachedTree e.tree) (trees_of e.calls) (reached_among e called)) (λ (m : (m : ℕ) × IsNumberOfKinds (IsReachedTree e.tree) m).
    surely (summary_text (counts_of e rows n.0 m.0), (counts_of e rows n.0 m.0, are_counts e rows n.0 m.0 n.1 m.1, refl))))
