-- The unfolding of an entry is its circuit with the unfoldings of its kids.
use Rattle.std.proofs.Common.{◌≡◌, ℕ, zero, suc, ◌<◌, List, ◌++◌, length, refl, sym, ◌∙◌, ap, arith}
use Rattle.std.specs.Prelude.{slice_get, Option, Some, None}
use Rattle.hc_signal.specs.Tree.{Tree, tree}
use Rattle.hc_walk.proofs.Members.{has_slice}
use Rattle.hc_canon.specs.declared.form.EntryId.{EntryId}
use Rattle.hc_canon.specs.FormView.{FormView}
use Rattle.hc_canon.proofs.LaidOut.{slice_left}
use Rattle.hc_dbstate.specs.History.{History, IsLegal}
use Rattle.hc_dbstate.specs.Unfolding.{kid_tree, form_tree, tree_down_to, unfolding_of}
use Rattle.hc_dbstate.proofs.Triples.{some_at}

module _ (h : History) (legal : IsLegal h) where
  pub kid_below : (k : ℕ) (x : FormView) (i : ℕ) (id : EntryId) → slice_get h.entries k ≡ Some x → slice_get x.kids i ≡ Some id → id.0 < k
  kid_below k x i id q r = legal.kids k x id q (has_slice x.kids i id r)

  -- trees that agree on lower entries
  form_agrees : (f g : ℕ → Tree) (k : ℕ) (o : Option FormView) → slice_get h.entries k ≡ o → ((j : ℕ) → j < k → f j ≡ g j) → form_tree f o ≡ form_tree g o
  form_agrees f g k None q a = refl
  form_agrees f g k (Some x) q a = λ n. tree x.circuit (λ i. kid_agrees i (slice_get x.kids i) refl n)
    where
      kid_agrees : (i : ℕ) (o : Option EntryId) → slice_get x.kids i ≡ o → kid_tree f o ≡ kid_tree g o
      kid_agrees i None r = refl
      kid_agrees i (Some id) r = a id.0 (kid_below k x i id q r)

  -- any number of levels above the place is enough
  levels_enough : (n m k : ℕ) → k < n → k < m → tree_down_to n h.entries k ≡ tree_down_to m h.entries k
  levels_enough zero m k b c = absurd (omega (arith, b))
  levels_enough (suc n) zero k b c = absurd (omega (arith, c))
  levels_enough (suc n) (suc m) k b c =
      form_agrees (tree_down_to n h.entries) (tree_down_to m h.entries) k (slice_get h.entries k) refl
      (λ j l. let p : j < n = omega (arith, l, b) in let q : j < m = omega (arith, l, c) in levels_enough n m j p q)

  abbrev pub unfolded : ℕ → Tree
  unfolded k = unfolding_of h.entries (record { 0 = k })

  pub unfolds : (id : EntryId) (x : FormView) → slice_get h.entries id.0 ≡ Some x → unfolding_of h.entries id ≡ tree x.circuit (λ i. kid_tree unfolded (slice_get x.kids i))
  unfolds id x q =
      ap (form_tree (tree_down_to id.0 h.entries)) q
      ∙ form_agrees (tree_down_to id.0 h.entries) unfolded id.0 (Some x) q (λ j l. let p : j < suc j = omega arith in levels_enough id.0 (suc j) j l p)

  -- entries that are added change nothing
  levels_stay : (more : List FormView) (n k : ℕ) → k < length h.entries → tree_down_to n (h.entries ++ more) k ≡ tree_down_to n h.entries k
  levels_stay more zero k b = refl
  levels_stay more (suc n) k b =
      let x : (x : FormView) × (slice_get h.entries k ≡ Some x) = some_at h.entries k b in
      ap (form_tree (tree_down_to n (h.entries ++ more))) (slice_left h.entries more k x.0 x.1)
      ∙ form_agrees (tree_down_to n (h.entries ++ more)) (tree_down_to n h.entries) k (Some x.0) x.1 (λ j l. let c : j < length h.entries = omega (arith, l, b) in levels_stay more n j c)
      ∙ ap (form_tree (tree_down_to n h.entries)) (sym x.1)

  pub unfolding_stays : (id : EntryId) (more : List FormView) → id.0 < length h.entries → unfolding_of (h.entries ++ more) id ≡ unfolding_of h.entries id
  unfolding_stays id more b = levels_stay more (suc id.0) id.0 b
