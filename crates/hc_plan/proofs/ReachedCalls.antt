-- Each tree that the top of an elaborated design reaches is that of one of its calls.
use Rattle.std.proofs.Common.{◌≡◌, ℕ, List, [], ◌∷◌, sym, subst}
use Rattle.std.specs.Prelude.{slice_get, Some}
use Rattle.hc_signal.specs.declared.signal.Instance.{Instance}
use Rattle.hc_signal.specs.Graph.{Reached, inst}
use Rattle.hc_signal.specs.Member.{Has, first}
use Rattle.hc_signal.specs.Occurrences.{IsReachedPath, tree_at}
use Rattle.hc_signal.specs.Tree.{IsWhole, Tree, graph, kid, none, tree}
use Rattle.hc_walk.proofs.InRange.{HasRow, reached_row}
use Rattle.hc_walk.proofs.Members.{has_right}
use Rattle.hc_plan.specs.Elaborates.{Elaborated, ElaboratedCall}
use Rattle.hc_plan.proofs.Ends.{EndsWith}

-- one of the calls has the tree
abbrev pub IsTreeOfCall : List ElaboratedCall → Tree → Type 0
IsTreeOfCall calls t = (y : ElaboratedCall) × Has calls y × (y.tree ≡ t)

-- the tree of each instance of a call is that of a call
abbrev pub AreClosed : List ElaboratedCall → Type 0
AreClosed calls = (x : ElaboratedCall) → Has calls x → (i : ℕ) (it : Instance) → slice_get (graph x.tree).instances i ≡ Some it
    → IsTreeOfCall calls (kid x.tree i)

-- a whole tree that is that of a call
abbrev IsWholeOfCall : List ElaboratedCall → Tree → Type 0
IsWholeOfCall calls t = IsWhole t × IsTreeOfCall calls t

module _ (e : Elaborated) (closed : AreClosed e.calls) where
  top_of : EndsWith e → IsTreeOfCall e.calls e.tree
  top_of (before, last, is, t, sums) = (last, subst (λ (calls : List ElaboratedCall). Has calls last) (sym is) (has_right before first), t)

  kid_of : (t : Tree) → IsWholeOfCall e.calls t → (i : ℕ) → Reached (graph t) (inst i) → IsWholeOfCall e.calls (kid t i)
  kid_of none (w, own) i r = absurd w
  kid_of (tree g kids) (w, (x, h, is)) i r =
      let row : HasRow g (inst i) = reached_row g w.0 r in
      let there : slice_get (graph x.tree).instances i ≡ Some row.0 = subst (λ (t : Tree). slice_get (graph t).instances i ≡ Some row.0) (sym is) row.1 in
      ((w.1 i row.0 row.1).1, subst (λ (t : Tree). IsTreeOfCall e.calls (kid t i)) is (closed x h i row.0 there))

  along : IsWholeOfCall e.calls e.tree → (path : List ℕ) → IsReachedPath e.tree path → IsWholeOfCall e.calls (tree_at e.tree path)
  along top [] r = top
  along top (i ∷ path) r = kid_of (tree_at e.tree path) (along top path r.0) i r.1

  pub reached_called : EndsWith e → IsWhole e.tree → (path : List ℕ) → IsReachedPath e.tree path → IsTreeOfCall e.calls (tree_at e.tree path)
  reached_called ends w path r = (along (w, top_of ends) path r).1
