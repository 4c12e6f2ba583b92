-- The kids of an entry of a legal history.
use Rattle.std.proofs.Common.{◌≡◌, ℕ, ◌+◌, ◌<◌, List, length, sym, ◌∙◌, ap, subst, arith}
use Rattle.std.proofs.lemmas.Option.{slice_get_within, slice_get-get_or}
use Rattle.std.specs.Prelude.{slice_get, get_or, Some}
use Rattle.hc_signal.specs.Tree.{graph}
use Rattle.hc_signal.specs.Graph.{Graph}
use Rattle.hc_canon.specs.declared.form.EntryId.{EntryId}
use Rattle.hc_canon.specs.FormView.{FormView}
use Rattle.hc_dbstate.specs.History.{History, IsLegal}
use Rattle.hc_dbstate.specs.Unfolding.{kid_tree, unfolding_of}
use Rattle.hc_dbstate.proofs.Unfolded.{kid_below, unfolds}
use Rattle.hc_flatten.specs.declared.place.Place.{Place}
use Rattle.hc_flatten.specs.Flattened.{IsEntry, kid_trees, nodes_before, output_number, id_or_zero}

module _ (h : History) (legal : IsLegal h) where
  pub kid_known : (form : FormView) → IsEntry h.entries form → (i : ℕ) (id : EntryId) → slice_get form.kids i ≡ Some id → id.0 < length h.entries
  kid_known form e i id q =
      let b : id.0 < e.0 = kid_below h legal e.0 form i id e.1 q in
      let c : e.0 < length h.entries = slice_get_within h.entries e.0 form e.1 in
      omega (arith, b, c)

  pub kid_is : (form : FormView) (i : ℕ) (id : EntryId) → slice_get form.kids i ≡ Some id → kid_trees h.entries form i ≡ unfolding_of h.entries id
  kid_is form i id q = ap (kid_tree (λ k. unfolding_of h.entries (record { 0 = k }))) q

  pub kid_graph : (form : FormView) (i : ℕ) (id : EntryId) (kid : FormView) → slice_get form.kids i ≡ Some id → slice_get h.entries id.0 ≡ Some kid → graph (kid_trees h.entries form i) ≡ kid.circuit
  kid_graph form i id kid q r = ap graph (kid_is form i id q ∙ unfolds h legal id kid r)

  pub output_is : (form : FormView) (p : Place) (i port : ℕ) (id : EntryId) (kid : FormView) (start k o : ℕ) → slice_get form.kids i ≡ Some id → slice_get h.entries id.0 ≡ Some kid
      → start ≡ nodes_before p form.circuit (kid_trees h.entries form) i → o ≡ id_or_zero (slice_get kid.circuit.outputs port) → k ≡ start + o → k ≡ output_number p form.circuit
      (kid_trees h.entries form) i port
  output_is form p i port id kid start k o q r b c e =
      let d : o ≡ id_or_zero (slice_get (graph (kid_trees h.entries form i)).outputs port) = c ∙ ap (λ (g : Graph). id_or_zero (slice_get g.outputs port)) (sym (kid_graph form i id kid q r)) in
      e ∙ ap (λ n. n + o) b ∙ ap (λ n. nodes_before p form.circuit (kid_trees h.entries form) i + n) d

-- the element at a place of a list that is equal to another one
pub read_at : {X : Type 0} (xs ys : List X) (n i : ℕ) (d : X) → ys ≡ xs → length xs ≡ n → i < n → slice_get xs i ≡ Some (get_or ys i d)
read_at xs ys n i d q m b = subst (λ l. slice_get xs i ≡ Some (get_or l i d)) (sym q) (slice_get-get_or xs i d (subst (λ k. i < k) (sym m) b))

pub read_here : {X : Type 0} (xs ys : List X) (i : ℕ) (d : X) → ys ≡ xs → i < length ys → slice_get xs i ≡ Some (get_or ys i d)
read_here xs ys i d q b = subst (λ l. slice_get l i ≡ Some (get_or ys i d)) q (slice_get-get_or ys i d b)
