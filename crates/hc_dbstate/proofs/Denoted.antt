-- Forms of circuits whose instances' entries denote trees are equal exactly where the circuits with these trees are the same.
use Rattle.std.proofs.Common.{◌≡◌, ℕ, zero, suc, ◌<◌, List, length, sym, subst, subst₂, ◌∙◌, ap, arith}
use Rattle.std.proofs.lemmas.Option.{slice_get_within}
use Rattle.std.specs.Prelude.{slice_get, Some}
use Rattle.hc_signal.specs.Graph.{Graph, inst, Reached}
use Rattle.hc_signal.specs.Tree.{Tree, none, tree}
use Rattle.hc_walk.proofs.InRange.{HasRow, reached_row}
use Rattle.hc_canon.specs.declared.form.EntryId.{EntryId}
use Rattle.hc_canon.specs.FormView.{FormView, IsForm, IsCanonOf, AreIsomorphic}
use Rattle.hc_canon.specs.Same.{Same}
use Rattle.hc_canon.proofs.Canonical.{instance_stays}
use Rattle.hc_canon.proofs.Isomorphisms.{reached_to, same-refl, same-sym, same-trans}
use Rattle.hc_canon.proofs.Decided.{forms_from_isomorphic, isomorphic_from_forms}
use Rattle.hc_dbstate.specs.History.{History, IsLegal}
use Rattle.hc_dbstate.specs.Unfolding.{kid_tree, unfolding_of, AreDenoted}
use Rattle.hc_dbstate.proofs.Triples.{some_at}
use Rattle.hc_dbstate.proofs.Unfolded.{kid_below, unfolded, unfolds}

-- a reached instance has an entry
has_entry : (g : Graph) (ids : List EntryId) (a : FormView) → IsCanonOf g ids a → (i : ℕ) → Reached g (inst i) → (id : EntryId) × (slice_get ids i ≡ Some id)
has_entry g ids a c i r =
    let row : HasRow a.circuit (inst (c.to.inst i)) = reached_row a.circuit c.form.lawful (reached_to c.to c.back g a.circuit c.isomorphism r) in
    let x : (id : EntryId) × (slice_get a.kids (c.to.inst i) ≡ Some id) = some_at a.kids (c.to.inst i)
    (subst (λ n. c.to.inst i < n) (sym c.form.kids) (slice_get_within a.circuit.instances (c.to.inst i) row.0 row.1)) in
    (x.0, sym (c.kids i r) ∙ x.1)

module _ (entries : List FormView) (f g : Graph) (ids others : List EntryId) (s t : ℕ → Tree) (a b : FormView) (ds : AreDenoted entries ids s) (dt : AreDenoted entries others t)
    (ca : IsCanonOf f ids a) (cb : IsCanonOf g others b) where
  same_from_isomorphic : AreIsomorphic f ids g others → Same (tree f s) (tree g t)
  same_from_isomorphic e = (
    e.0,
    e.1,
    e.2,
    λ i r. (let x : (id : EntryId) × (slice_get ids i ≡ Some id) = has_entry f ids a ca i r in
        same-trans (s i) (unfolding_of entries x.0) (t (e.0.inst i)) (same-sym (unfolding_of entries x.0) (s i) (ds i x.0 x.1).1) (dt (e.0.inst i) x.0 (e.3 i r ∙ x.1)).1),
  )

  -- where the entries of the instances tell their trees apart
  isomorphic_from_same : ((i j : ℕ) (x y : EntryId) → slice_get ids i ≡ Some x → slice_get others j ≡ Some y → Same (unfolding_of entries x) (unfolding_of entries y) → x ≡ y)
      → Same (tree f s) (tree g t) → AreIsomorphic f ids g others
  isomorphic_from_same once e = (
    e.0,
    e.1,
    e.2,
    λ i r. (let x : (id : EntryId) × (slice_get ids i ≡ Some id) = has_entry f ids a ca i r in
        let y : (id : EntryId) × (slice_get others (e.0.inst i) ≡ Some id) = has_entry g others b cb (e.0.inst i) (reached_to e.0 e.1 f g e.2 r) in
        let u : Same (unfolding_of entries x.0) (t (e.0.inst i)) = same-trans (unfolding_of entries x.0) (s i) (t (e.0.inst i)) (ds i x.0 x.1).1 (e.3 i r) in
        let v : Same (unfolding_of entries x.0) (unfolding_of entries y.0) = same-trans (unfolding_of entries x.0) (t (e.0.inst i)) (unfolding_of entries y.0) u
        (same-sym (unfolding_of entries y.0) (t (e.0.inst i)) (dt (e.0.inst i) y.0 y.1).1) in
        y.1 ∙ ap Some (sym (once i (e.0.inst i) x.0 y.0 x.1 y.1 v)) ∙ sym x.1),
  )

-- a form is the form of its own circuit and kids
pub own_canon : (x : FormView) → IsForm x → IsCanonOf x.circuit x.kids x
own_canon x f =
    let s : Same (tree x.circuit (λ i. none)) (tree x.circuit (λ i. none)) = same-refl (tree x.circuit (λ i. none)) in
    record {
      form = f;
      to = s.0;
      back = s.1;
      isomorphism = s.2;
      kids = λ i r. ap (slice_get x.kids) (instance_stays s.0 s.1 x.circuit x.circuit s.2 f.canonical f.canonical i r);
      known = λ id k. k;
    }

module _ (h : History) (legal : IsLegal h) where
  -- the kids of an entry denote their unfoldings
  pub own_denoted : (k : ℕ) (x : FormView) → slice_get h.entries k ≡ Some x → AreDenoted h.entries x.kids (λ i. kid_tree (unfolded h legal) (slice_get x.kids i))
  own_denoted k x q i id e =
      let b : id.0 < k = kid_below h legal k x i id q e in
      let c : k < length h.entries = slice_get_within h.entries k x q in
      (omega (arith, b, c), subst (λ o. Same (unfolding_of h.entries id) (kid_tree (unfolded h legal) o)) (sym e) (same-refl (unfolding_of h.entries id)))

  abbrev OnceBelow : ℕ → Type 0
  OnceBelow n = (x y : EntryId) → x.0 < n → x.0 < length h.entries → y.0 < length h.entries → Same (unfolding_of h.entries x) (unfolding_of h.entries y) → x ≡ y

  once_at : (i j : EntryId) (a b : FormView) → slice_get h.entries i.0 ≡ Some a → slice_get h.entries j.0 ≡ Some b → OnceBelow i.0 → Same (unfolding_of h.entries i) (unfolding_of h.entries j) → i ≡ j
  once_at i j a b at there once s =
      let da : AreDenoted h.entries a.kids (λ n. kid_tree (unfolded h legal) (slice_get a.kids n)) = own_denoted i.0 a at in
      let db : AreDenoted h.entries b.kids (λ n. kid_tree (unfolded h legal) (slice_get b.kids n)) = own_denoted j.0 b there in
      let ca : IsCanonOf a.circuit a.kids a = own_canon a (legal.forms i.0 a at) in
      let cb : IsCanonOf b.circuit b.kids b = own_canon b (legal.forms j.0 b there) in
      let trees : Same (tree a.circuit (λ n. kid_tree (unfolded h legal) (slice_get a.kids n))) (tree b.circuit (λ n. kid_tree (unfolded h legal) (slice_get b.kids n))) = subst₂
      Same (unfolds h legal i a at) (unfolds h legal j b there) s in
      let e : AreIsomorphic a.circuit a.kids b.circuit b.kids =
      isomorphic_from_same h.entries a.circuit b.circuit a.kids b.kids (λ n. kid_tree (unfolded h legal) (slice_get a.kids n)) (λ n. kid_tree (unfolded h legal) (slice_get b.kids n)) a b da db ca cb
      (λ n m x y p q u. once x y (kid_below h legal i.0 a n x at p) (da n x p).0 (db m y q).0 u) trees in
      let same : a ≡ b = forms_from_isomorphic a.circuit b.circuit a.kids b.kids a b ca cb e in
      ap (λ n. record { 0 = n }) (legal.different i.0 j.0 b (at ∙ ap Some same) there)

  once_below : (n : ℕ) → OnceBelow n
  once_below zero x y b c d s = absurd (omega (arith, b))
  once_below (suc n) x y b c d s =
      let a : (a : FormView) × (slice_get h.entries x.0 ≡ Some a) = some_at h.entries x.0 c in
      let e : (e : FormView) × (slice_get h.entries y.0 ≡ Some e) = some_at h.entries y.0 d in
      once_at x y a.0 e.0 a.1 e.1 (λ u v l m k t. let p : u.0 < n = omega (arith, l, b) in once_below n u v p m k t) s

  pub unfoldings_once : (i j : EntryId) → i.0 < length h.entries → j.0 < length h.entries → Same (unfolding_of h.entries i) (unfolding_of h.entries j) → i ≡ j
  unfoldings_once i j l m s = let b : i.0 < suc i.0 = omega arith in once_below (suc i.0) i j b l m s

  module _ (f g : Graph) (ids others : List EntryId) (s t : ℕ → Tree) (a b : FormView) (ds : AreDenoted h.entries ids s) (dt : AreDenoted h.entries others t)
      (ca : IsCanonOf f ids a) (cb : IsCanonOf g others b) where
    pub same_from_forms : a ≡ b → Same (tree f s) (tree g t)
    same_from_forms e = same_from_isomorphic h.entries f g ids others s t a b ds dt ca cb (isomorphic_from_forms f g ids others a b ca cb e)

    pub forms_from_same : Same (tree f s) (tree g t) → a ≡ b
    forms_from_same e =
        forms_from_isomorphic f g ids others a b ca cb
        (isomorphic_from_same h.entries f g ids others s t a b ds dt ca cb (λ i j x y p q u. unfoldings_once x y (ds i x p).0 (dt j y q).0 u) e)
