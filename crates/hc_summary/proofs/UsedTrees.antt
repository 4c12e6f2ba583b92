-- The top reaches as many different trees as its entry uses entries.
use Rattle.std.proofs.Common.{◌≡◌, ◌<◌, ℕ, Bool, List, length, refl, sym, ap, subst}
use Rattle.std.proofs.lemmas.Option.{slice_get_within}
use Rattle.hc_signal.specs.Tree.{Tree}
use Rattle.hc_signal.specs.Occurrences.{tree_at}
use Rattle.hc_canon.specs.declared.form.EntryId.{EntryId}
use Rattle.hc_canon.specs.FormView.{FormView}
use Rattle.hc_signal.specs.Member.{Has}
use Rattle.hc_canon.specs.Same.{Same}
use Rattle.hc_canon.proofs.Isomorphisms.{same-sym, same-trans}
use Rattle.hc_dbstate.specs.declared.hier.Hier.{Hier}
use Rattle.hc_dbstate.specs.Elaboration.{CallView, IsElaboration, hier_view, walk}
use Rattle.hc_dbstate.specs.History.{History, IsLegal}
use Rattle.hc_dbstate.specs.Unfolding.{unfolding_of}
use Rattle.hc_dbstate.specs.Uses.{AreUses, Uses}
use Rattle.hc_dbstate.proofs.Denoted.{unfoldings_once}
use Rattle.hc_plan.specs.Elaborates.{Elaborated}
use Rattle.hc_plan.specs.Hierarchies.{IsHierarchyFor}
use Rattle.hc_modules.proofs.Reaching.{path_entry, uses_reaches}
use Rattle.hc_modules.proofs.SamePaths.{path_along}
use Rattle.hc_summary.specs.Kinds.{IsNumberOfKinds}
use Rattle.hc_summary.specs.Summary.{IsReachedTree}
use Rattle.hc_summary.proofs.CalledEntries.{trees_of}
use Rattle.hc_summary.proofs.Marked.{AreOnce, HaveTrees, IsOn, marked, marks_number}

-- the entry of the top is there, and the entries that it uses are those of calls
abbrev pub TopIsThere : Type 0
TopIsThere = (entries : List FormView) (hier : Hier) → IsElaboration entries hier → (hier_view hier).own.entry.0 < length entries

abbrev pub UsedAreCalled : Type 0
UsedAreCalled = (entries : List FormView) (hier : Hier) (id : EntryId) → IsElaboration entries hier → Uses entries (hier_view hier).own.entry id → (call : CallView)
    × Has (walk hier) call × (call.own.entry ≡ id)

module _ (top_there : TopIsThere) (used_called : UsedAreCalled) (h : History) (hier : Hier) (of : Elaborated) (legal : IsLegal h) (for : IsHierarchyFor h.entries hier of)
    (marks : List Bool) (uses : AreUses h.entries (hier_view hier).own.entry marks) where
  abbrev top : EntryId
  top = (hier_view hier).own.entry

  abbrev entry : ℕ → EntryId
  entry k = record { 0 = k }

  used_within : (id : EntryId) → Uses h.entries top id → id.0 < length h.entries
  used_within id used =
      let c = used_called h.entries hier id for.elaboration used in
      let over = for.elaboration.calls c.0 c.1 in
      subst (λ (e : EntryId). e.0 < length h.entries) c.2 (slice_get_within h.entries c.0.own.entry.0 over.form over.found)

  have : HaveTrees (IsReachedTree of.tree) (trees_of h.entries) marks
  have k on =
      let p = uses_reaches h legal top (entry k) ((uses (entry k)).0 on) in
      let q = path_along (unfolding_of h.entries top) of.tree for.top p.0 p.1 in
      let back = same-sym (tree_at (unfolding_of h.entries top) p.0) (tree_at of.tree q.0) q.2 in
      (tree_at of.tree q.0, (q.0, q.1, refl), same-trans (tree_at of.tree q.0) (tree_at (unfolding_of h.entries top) p.0) (trees_of h.entries k) back p.2)

  once : AreOnce (trees_of h.entries) marks
  once i j x y same =
      let is = unfoldings_once h legal (entry i) (entry j) (used_within (entry i) ((uses (entry i)).0 x)) (used_within (entry j) ((uses (entry j)).0 y)) same in
      ap (λ (id : EntryId). id.0) is

  each : (t : Tree) → IsReachedTree of.tree t → (k : ℕ) × IsOn marks k × Same (trees_of h.entries k) t
  each t (path, reached, is) =
      let home = same-sym (unfolding_of h.entries top) of.tree for.top in
      let p = path_along of.tree (unfolding_of h.entries top) home path reached in
      let within = top_there h.entries hier for.elaboration in
      let e = path_entry h legal top within p.0 p.1 in
      let same : Same (tree_at of.tree path) (unfolding_of h.entries e.0) = subst (Same (tree_at of.tree path)) e.3 p.2 in
      let back = same-sym (tree_at of.tree path) (unfolding_of h.entries e.0) same in
      (e.0.0, (uses e.0).1 e.1, subst (Same (unfolding_of h.entries e.0)) (sym is) back)

  pub modules_number : IsNumberOfKinds (IsReachedTree of.tree) (marked marks)
  modules_number = marks_number (IsReachedTree of.tree) marks (trees_of h.entries) have once each
