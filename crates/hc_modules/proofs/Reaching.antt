-- In a legal history the trees that an unfolding reaches are those of the entries that its entry uses.
use Rattle.std.proofs.Common.{◌≡◌, ℕ, ◌<◌, List, [], ◌∷◌, length, refl, sym, ap, subst, ◌∙◌, arith}
use Rattle.std.proofs.lemmas.Option.{slice_get_within}
use Rattle.std.specs.Prelude.{slice_get, Some}
use Rattle.hc_signal.specs.declared.signal.Instance.{Instance}
use Rattle.hc_signal.specs.Graph.{Graph, inst, Reached}
use Rattle.hc_signal.specs.Lawful.{IsLawful}
use Rattle.hc_signal.specs.Tree.{Tree, graph, kid as kid_of}
use Rattle.hc_signal.specs.Occurrences.{IsReachedPath, tree_at}
use Rattle.hc_walk.proofs.Members.{has_slice}
use Rattle.hc_walk.proofs.InRange.{HasRow, reached_row}
use Rattle.hc_canon.specs.declared.form.EntryId.{EntryId}
use Rattle.hc_canon.specs.FormView.{FormView, IsForm}
use Rattle.hc_canon.specs.Same.{Same}
use Rattle.hc_canon.proofs.Isomorphisms.{same-refl}
use Rattle.hc_canon.proofs.Canonical.{reached_inst}
use Rattle.hc_canon.proofs.LaidOut.{has_index}
use Rattle.hc_dbstate.specs.History.{History, IsLegal}
use Rattle.hc_dbstate.specs.Unfolding.{kid_tree, unfolding_of}
use Rattle.hc_dbstate.proofs.Triples.{some_at}
use Rattle.hc_dbstate.proofs.Unfolded.{kid_below, unfolded, unfolds}
use Rattle.hc_dbstate.proofs.Denoted.{unfoldings_once}
use Rattle.hc_dbstate.specs.Uses.{Uses, itself, kid}
use Rattle.hc_modules.specs.VerilogText.{TopReaches}

module _ (h : History) (legal : IsLegal h) where
  -- a kid's place in a form is that of a reached instance
  pub kid_reached : (id : EntryId) (form : FormView) (i : ℕ) (next : EntryId) → slice_get h.entries id.0 ≡ Some form → slice_get form.kids i ≡ Some next → Reached form.circuit (inst i)
  kid_reached id form i next at is =
      let f : IsForm form = legal.forms id.0 form at in
      reached_inst form.circuit f.canonical i (subst (λ n. i < n) f.kids (slice_get_within form.kids i next is))

  -- a reached instance of a form has a kid
  pub reached_kid : (id : EntryId) (form : FormView) (i : ℕ) → slice_get h.entries id.0 ≡ Some form → Reached form.circuit (inst i) → (next : EntryId) × (slice_get form.kids i ≡ Some next)
  reached_kid id form i at r =
      let f : IsForm form = legal.forms id.0 form at in
      let row : HasRow form.circuit (inst i) = reached_row form.circuit f.lawful r in
      some_at form.kids i (subst (λ n. i < n) (sym f.kids) (slice_get_within form.circuit.instances i row.0 row.1))

  -- the tree of a kid
  pub kid_unfolds : (id : EntryId) (form : FormView) (i : ℕ) (next : EntryId) → slice_get h.entries id.0 ≡ Some form → slice_get form.kids i ≡ Some next
      → kid_of (unfolding_of h.entries id) i ≡ unfolding_of h.entries next
  kid_unfolds id form i next at is = ap (λ (t : Tree). kid_of t i) (unfolds h legal id form at) ∙ ap (kid_tree (unfolded h legal)) is

  pub graph_unfolds : (id : EntryId) (form : FormView) → slice_get h.entries id.0 ≡ Some form → graph (unfolding_of h.entries id) ≡ form.circuit
  graph_unfolds id form at = ap graph (unfolds h legal id form at)

  module _ (top : EntryId) where
    abbrev top_tree : Tree
    top_tree = unfolding_of h.entries top

    uses_path : (id : EntryId) → Uses h.entries top id → (path : List ℕ) × IsReachedPath top_tree path × (tree_at top_tree path ≡ unfolding_of h.entries id)
    uses_path id itself = ([], tt, refl)
    uses_path id (kid {id = from} form used at has) =
        let p = uses_path from used in
        let i = has_index has in
        let r : Reached form.circuit (inst i.0) = kid_reached from form i.0 id at i.1 in
        let g : graph (tree_at top_tree p.0) ≡ form.circuit = ap graph p.2 ∙ graph_unfolds from form at in
        (i.0 ∷ p.0, (p.1, subst (λ (c : Graph). Reached c (inst i.0)) (sym g) r), ap (λ (t : Tree). kid_of t i.0) p.2 ∙ kid_unfolds from form i.0 id at i.1)

    pub uses_reaches : (id : EntryId) → Uses h.entries top id → TopReaches top_tree (unfolding_of h.entries id)
    uses_reaches id used =
        let p = uses_path id used in
        (p.0, p.1, subst (λ (t : Tree). Same t (unfolding_of h.entries id)) (sym p.2) (same-refl (unfolding_of h.entries id)))

    -- a reached path comes to the unfolding of an entry that the top uses
    pub path_entry : top.0 < length h.entries → (path : List ℕ) → IsReachedPath top_tree path
        → (id : EntryId) × Uses h.entries top id × (id.0 < length h.entries) × (tree_at top_tree path ≡ unfolding_of h.entries id)
    path_entry within [] r = (top, itself, within, refl)
    path_entry within (i ∷ path) r =
        let p = path_entry within path r.0 in
        let form : (x : FormView) × (slice_get h.entries p.0.0 ≡ Some x) = some_at h.entries p.0.0 p.2 in
        let g : graph (tree_at top_tree path) ≡ form.0.circuit = ap graph p.3 ∙ graph_unfolds p.0 form.0 form.1 in
        let next : (id : EntryId) × (slice_get form.0.kids i ≡ Some id) = reached_kid p.0 form.0 i form.1 (subst (λ (c : Graph). Reached c (inst i)) g r.1) in
        let below : next.0.0 < p.0.0 = kid_below h legal p.0.0 form.0 i next.0 form.1 next.1 in
        let inside : p.0.0 < length h.entries = p.2 in
        let lower : next.0.0 < length h.entries = omega (arith, below, inside) in
        (next.0, kid form.0 p.1 form.1 (has_slice form.0.kids i next.0 next.1), lower, ap (λ (t : Tree). kid_of t i) p.3 ∙ kid_unfolds p.0 form.0 i next.0 form.1 next.1)

    pub reaches_used : top.0 < length h.entries → (id : EntryId) → id.0 < length h.entries → TopReaches top_tree (unfolding_of h.entries id) → Uses h.entries top id
    reaches_used within id lt (path, r, same) =
        let p = path_entry within path r in
        let is : p.0 ≡ id = unfoldings_once h legal p.0 id p.2 lt (subst (λ (t : Tree). Same t (unfolding_of h.entries id)) p.3 same) in
        subst (Uses h.entries top) is p.1

-- a reached instance of a lawful circuit is there
pub reached_instance : (g : Graph) → IsLawful g → (i : ℕ) → Reached g (inst i) → (it : Instance) × (slice_get g.instances i ≡ Some it)
reached_instance g l i r = let row : HasRow g (inst i) = reached_row g l r in (row.0, row.1)
