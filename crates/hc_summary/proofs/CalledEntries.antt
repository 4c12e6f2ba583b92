-- Where each entry of a database is that of a call of a hierarchy, the entries are as many as the trees of its calls.
use Rattle.std.proofs.Common.{◌≡◌, ◌<◌, ℕ, zero, suc, Bool, true, cond, List, [], ◌∷◌, length, replicate, refl, sym, ap, subst, arith}
use Rattle.std.proofs.lemmas.List.Sums.{sum_by-cons}
use Rattle.std.proofs.lemmas.Option.{slice_get_within}
use Rattle.hc_signal.specs.Member.{Has}
use Rattle.hc_signal.specs.Tree.{Tree}
use Rattle.hc_canon.specs.declared.form.EntryId.{EntryId}
use Rattle.hc_canon.specs.FormView.{FormView}
use Rattle.hc_canon.specs.Same.{Same}
use Rattle.hc_canon.proofs.Isomorphisms.{same-sym}
use Rattle.hc_dbstate.specs.declared.hier.Hier.{Hier}
use Rattle.hc_dbstate.specs.Elaboration.{CallView, walk}
use Rattle.hc_dbstate.specs.History.{History, IsLegal}
use Rattle.hc_dbstate.specs.Unfolding.{unfolding_of}
use Rattle.hc_dbstate.proofs.Denoted.{unfoldings_once}
use Rattle.hc_plan.specs.Elaborates.{Elaborated, ElaboratedCall}
use Rattle.hc_plan.specs.Hierarchies.{AreCalled, IsCallFor, IsHierarchyFor}
use Rattle.hc_summary.specs.Kinds.{IsNumberOfKinds}
use Rattle.hc_summary.specs.Summary.{IsCallTree}
use Rattle.hc_summary.proofs.Marked.{AreOnce, HaveTrees, IsOn, marked, marks_number}

abbrev entry : ℕ → EntryId
entry k = record { 0 = k }

all_on : (n k : ℕ) → k < n → IsOn (replicate n true) k
all_on zero k lt = absurd (omega (arith, lt))
all_on (suc n) zero lt = refl
all_on (suc n) (suc k) lt = all_on n k (omega (arith, lt))

on_within : (n k : ℕ) → IsOn (replicate n true) k → k < n
on_within zero k e = absurd cc
on_within (suc n) zero e = omega arith
on_within (suc n) (suc k) e = let lt = on_within n k e in omega (arith, lt)

all_marked : (n : ℕ) → marked (replicate n true) ≡ n
all_marked zero = refl
all_marked (suc n) = let s = sum_by-cons (λ (b : Bool). cond b 1 0) true (replicate n true) in let m = all_marked n in omega (arith, s, m)

abbrev pub trees_of : List FormView → ℕ → Tree
trees_of entries k = unfolding_of entries (entry k)

-- each call of a hierarchy stands for one of its design, and each of those has one that stands for it
abbrev pub StandForCalls : Type 0
StandForCalls = (entries : List FormView) (hier : Hier) (e : Elaborated) (view : CallView) → IsHierarchyFor entries hier e → Has (walk hier) view → (c : ElaboratedCall)
    × Has e.calls c × IsCallFor entries view c

abbrev pub HaveCalls : Type 0
HaveCalls = (entries : List FormView) (hier : Hier) (e : Elaborated) (c : ElaboratedCall) → IsHierarchyFor entries hier e → Has e.calls c → (view : CallView) × Has (walk hier) view
    × IsCallFor entries view c

module _ (stand : StandForCalls) (stood_for : HaveCalls) (h : History) (hier : Hier) (of : Elaborated) (legal : IsLegal h) (for : IsHierarchyFor h.entries hier of)
    (are_called : AreCalled h.entries hier) where
  abbrev marks : List Bool
  marks = replicate (length h.entries) true

  have : HaveTrees (IsCallTree of.calls) (trees_of h.entries) marks
  have k on =
      let view = are_called (entry k) (on_within (length h.entries) k on) in
      let call = stand h.entries hier of view.0 for view.1 in
      let same : Same (trees_of h.entries k) call.0.tree = subst (λ (id : EntryId). Same (unfolding_of h.entries id) call.0.tree) view.2 call.2.tree in
      (call.0.tree, (call.0, call.1, refl), same-sym (trees_of h.entries k) call.0.tree same)

  once : AreOnce (trees_of h.entries) marks
  once i j x y same =
      let is = unfoldings_once h legal (entry i) (entry j) (on_within (length h.entries) i x) (on_within (length h.entries) j y) same in
      ap (λ (id : EntryId). id.0) is

  each : (t : Tree) → IsCallTree of.calls t → (k : ℕ) × IsOn marks k × Same (trees_of h.entries k) t
  each t (call, has, is) =
      let view = stood_for h.entries hier of call for has in
      let over = for.elaboration.calls view.0 view.1 in
      let within = slice_get_within h.entries view.0.own.entry.0 over.form over.found in
      (view.0.own.entry.0, all_on (length h.entries) view.0.own.entry.0 within, subst (Same (unfolding_of h.entries view.0.own.entry)) (sym is) view.2.tree)

  pub entries_number : IsNumberOfKinds (IsCallTree of.calls) (length h.entries)
  entries_number = subst (IsNumberOfKinds (IsCallTree of.calls)) (all_marked (length h.entries)) (marks_number (IsCallTree of.calls) marks (trees_of h.entries) have once each)
