-- What the number of an instance means.
use Rattle.std.proofs.Common.{◌≡◌, ℕ, zero, suc, ◌+◌, ◌<◌, ◌≤◌, inl, inr, List, [], ◌∷◌, length, refl, sym, subst, ◌∙◌, ap, arith}
use Rattle.std.proofs.lemmas.Option.{slice_get_within}
use Rattle.std.proofs.lemmas.Bool.{cases_lt}
use Rattle.std.specs.Prelude.{slice_get, Option, Some, None}
use Rattle.hc_signal.specs.Graph.{Graph, inst, Reached}
use Rattle.hc_signal.specs.Tree.{graph, kid}
use Rattle.hc_signal.specs.Occurrences.{IsReachedPath, graph_at, tree_at}
use Rattle.hc_walk.proofs.InRange.{reached_row}
use Rattle.hc_canon.specs.declared.form.EntryId.{EntryId}
use Rattle.hc_canon.specs.FormView.{FormView, IsForm}
use Rattle.hc_canon.specs.Numbering.{IsCanonical}
use Rattle.hc_dbstate.specs.History.{History, IsLegal}
use Rattle.hc_dbstate.specs.Unfolding.{kid_tree, unfolding_of}
use Rattle.hc_dbstate.proofs.Triples.{some_once, some_at}
use Rattle.hc_dbstate.proofs.Unfolded.{unfolds, unfolded}
use Rattle.hc_layout.specs.Layout.{Layout, kids_of, kid_place, place, IsLayout}
use Rattle.hc_layout.proofs.Laid.{IsOwn, own_of, place_of, kids_are}

-- the instance that an instance stands in
pub record IsBelow (forms : List FormView) (l : Layout) (path : List ℕ) (i q : ℕ) : Type 0 where
  pub p : ℕ
  pub above : place forms l path ≡ Some p
  pub own : IsOwn forms (slice_get l.entries p) (slice_get l.first p) i q

pub below : (forms : List FormView) (l : Layout) (path : List ℕ) (i q : ℕ) → place forms l (i ∷ path) ≡ Some q → IsBelow forms l path i q
below forms l path i q e = go (place forms l path) refl e
  where
    go : (o : Option ℕ) → place forms l path ≡ o → kid_place forms l o i ≡ Some q → IsBelow forms l path i q
    go None s t = cc
    go (Some p) s t = record { p = p; above = s; own = own_of forms (slice_get l.entries p) (slice_get l.first p) i q t }

same_path : (i j : ℕ) (path other : List ℕ) → i ≡ j → path ≡ other → i ∷ path ≡ j ∷ other
same_path i j path other e f = cc

module _ (forms : List FormView) (top : EntryId) (l : Layout) (lay : IsLayout forms top l) where
  pub entry_placed : (path : List ℕ) (p : ℕ) → place forms l path ≡ Some p → (id : EntryId) × (slice_get l.entries p ≡ Some id)
  entry_placed [] p e = (top, subst (λ (n : ℕ). slice_get l.entries n ≡ Some top) (some_once e) lay.laid.root)
  entry_placed (i ∷ path) p e =
      let b = below forms l path i p e in
      (b.own.kid, subst (λ (n : ℕ). slice_get l.entries n ≡ Some b.own.kid) (sym b.own.number_is) (lay.laid.own b.p i b.own.begin b.own.id b.own.kid b.own.entry_is b.own.start_is b.own.kid_is))

  pub within : (path : List ℕ) (p : ℕ) → place forms l path ≡ Some p → p < length l.entries
  within path p e = let x = entry_placed path p e in slice_get_within l.entries p x.0 x.1

  pub step : (path : List ℕ) (p i begin : ℕ) (id kid : EntryId) → place forms l path ≡ Some p → slice_get l.entries p ≡ Some id → slice_get l.first p ≡ Some begin
      → slice_get (kids_of forms id) i ≡ Some kid → place forms l (i ∷ path) ≡ Some (begin + i)
  step path p i begin id kid e a b c = ap (λ o. kid_place forms l o i) e ∙ place_of forms (slice_get l.entries p) (slice_get l.first p) i begin id kid a b c

  below_it : (path : List ℕ) (i q : ℕ) (b : IsBelow forms l path i q) → b.p < q
  below_it path i q b = let h : b.p < b.own.begin = lay.laid.behind b.p b.own.begin b.own.start_is in omega (arith, h, b.own.number_is)

  pub behind : (path : List ℕ) (p i q : ℕ) → place forms l path ≡ Some p → place forms l (i ∷ path) ≡ Some q → p < q
  behind path p i q e f =
      let b = below forms l path i q f in
      let same : b.p ≡ p = some_once (sym b.above ∙ e) in
      let h : b.p < q = below_it path i q b in
      omega (arith, same, h)

  own_end : (entry : Option EntryId) (start : Option ℕ) (i q : ℕ) (o : IsOwn forms entry start i q) → q < o.begin + length (kids_of forms o.id)
  own_end entry start i q o = let h : i < length (kids_of forms o.id) = slice_get_within (kids_of forms o.id) i o.kid o.kid_is in omega (arith, h, o.number_is)

  -- the own instances of an earlier instance stand before those of a later one
  before : (k n i j p : ℕ) → IsOwn forms (slice_get l.entries k) (slice_get l.first k) i p → IsOwn forms (slice_get l.entries n) (slice_get l.first n) j p → k < n → ⊥
  before k n i j p x y h =
      let a : x.begin + length (kids_of forms x.id) ≤ y.begin = lay.laid.apart k n x.begin y.begin x.id x.entry_is x.start_is y.start_is h in
      let b : p < x.begin + length (kids_of forms x.id) = own_end (slice_get l.entries k) (slice_get l.first k) i p x in
      omega (arith, a, b, y.number_is)

  pub same_parent : (k n i j p : ℕ) → IsOwn forms (slice_get l.entries k) (slice_get l.first k) i p → IsOwn forms (slice_get l.entries n) (slice_get l.first n) j p → (k ≡ n) × (i ≡ j)
  same_parent k n i j p x y = elim (cases_lt k n) [
    | inl a ↦ absurd (before k n i j p x y a)
    | inr b ↦ (elim (cases_lt n k) [
      | inl c ↦ absurd (before n k j i p y x c)
      | inr d ↦ (let e : k ≡ n = omega (arith, b, d) in
          let s : x.begin ≡ y.begin = some_once (sym x.start_is ∙ ap (slice_get l.first) e ∙ y.start_is) in
          (e, omega (arith, s, x.number_is, y.number_is)))
    ])
  ]

  pub apart : (path other : List ℕ) (p : ℕ) → place forms l path ≡ Some p → place forms l other ≡ Some p → path ≡ other
  apart [] [] p a b = refl
  apart [] (j ∷ other) p a b = let x = below forms l other j p b in let h : x.p < p = below_it other j p x in let z : 0 ≡ p = some_once a in absurd (omega (arith, h, z))
  apart (i ∷ path) [] p a b = let x = below forms l path i p a in let h : x.p < p = below_it path i p x in let z : 0 ≡ p = some_once b in absurd (omega (arith, h, z))
  apart (i ∷ path) (j ∷ other) p a b =
      let x = below forms l path i p a in
      let y = below forms l other j p b in
      let s : (x.p ≡ y.p) × (i ≡ j) = same_parent x.p y.p i j p x.own y.own in
      same_path i j path other s.1 (apart path other x.p x.above (y.above ∙ ap Some (sym s.0)))

  -- each number is that of an instance
  pub numbered : (n p : ℕ) → p < n → p < length l.entries → (path : List ℕ) × (place forms l path ≡ Some p)
  numbered zero p h w = absurd (omega (arith, h))
  numbered (suc n) zero h w = ([], refl)
  numbered (suc n) (suc p) h w =
      let some : 0 < suc p = omega arith in
      let o = lay.laid.others (suc p) some w in
      let x = own_of forms (slice_get l.entries o.0) (slice_get l.first o.0) o.1 (suc p) o.2 in
      let up : o.0 < x.begin = lay.laid.behind o.0 x.begin x.start_is in
      let lower : o.0 < n = omega (arith, up, h, x.number_is) in
      let there : o.0 < length l.entries = omega (arith, up, w, x.number_is) in
      let rest = numbered n o.0 lower there in
      (o.1 ∷ rest.0, ap (λ k. kid_place forms l k o.1) rest.1 ∙ o.2)

-- the tree of an instance is the unfolding of its entry
module _ (h : History) (legal : IsLegal h) (top : EntryId) (l : Layout) (lay : IsLayout h.entries top l) where
  form_of : (p : ℕ) (id : EntryId) → slice_get l.entries p ≡ Some id → (form : FormView) × (slice_get h.entries id.0 ≡ Some form)
  form_of p id e = some_at h.entries id.0 (lay.laid.known p id e)

  kid_unfolds : (id kid_id : EntryId) (form : FormView) (i : ℕ) → slice_get h.entries id.0 ≡ Some form → slice_get (kids_of h.entries id) i ≡ Some kid_id
      → kid (unfolding_of h.entries id) i ≡ unfolding_of h.entries kid_id
  kid_unfolds id kid_id form i q k =
      let own : slice_get form.kids i ≡ Some kid_id = ap (λ ks. slice_get ks i) (sym (kids_are h.entries id form q)) ∙ k in
      ap (λ t. kid t i) (unfolds h legal id form q) ∙ ap (kid_tree (unfolded h legal)) own

  pub trees : (path : List ℕ) (p : ℕ) → place h.entries l path ≡ Some p → (id : EntryId) × (slice_get l.entries p ≡ Some id) × (tree_at (unfolding_of h.entries top) path ≡ unfolding_of h.entries id)
  trees [] p e = (top, subst (λ (n : ℕ). slice_get l.entries n ≡ Some top) (some_once e) lay.laid.root, refl)
  trees (i ∷ path) p e =
      let b = below h.entries l path i p e in
      let x = trees path b.p b.above in
      let form = form_of b.p b.own.id b.own.entry_is in
      let same : x.0 ≡ b.own.id = some_once (sym x.1 ∙ b.own.entry_is) in (
        b.own.kid,
        subst (λ (n : ℕ). slice_get l.entries n ≡ Some b.own.kid) (sym b.own.number_is) (lay.laid.own b.p i b.own.begin b.own.id b.own.kid b.own.entry_is b.own.start_is b.own.kid_is),
        ap (λ t. kid t i) (x.2 ∙ ap (unfolding_of h.entries) same) ∙ kid_unfolds b.own.id b.own.kid form.0 i form.1 b.own.kid_is,
      )

  pub graphs : (path : List ℕ) (p : ℕ) → place h.entries l path ≡ Some p
      → (id : EntryId) × (form : FormView) × (slice_get l.entries p ≡ Some id) × (slice_get h.entries id.0 ≡ Some form) × (graph_at (unfolding_of h.entries top) path ≡ form.circuit)
  graphs path p e =
      let x = trees path p e in
      let form = form_of p x.0 x.1 in
      (x.0, form.0, x.1, form.1, ap graph x.2 ∙ ap graph (unfolds h legal x.0 form.0 form.1))

  pub reached : (path : List ℕ) → IsReachedPath (unfolding_of h.entries top) path → (p : ℕ) × (place h.entries l path ≡ Some p)
  reached [] r = (0, refl)
  reached (i ∷ path) r =
      let up = reached path r.0 in
      let x = graphs path up.0 up.1 in
      let is : IsForm x.1 = legal.forms x.0.0 x.1 x.3 in
      let own_inst : Reached x.1.circuit (inst i) = subst (λ g. Reached g (inst i)) x.4 r.1 in
      let row = reached_row x.1.circuit is.lawful own_inst in
      let inside : i < length x.1.circuit.instances = slice_get_within x.1.circuit.instances i row.0 row.1 in
      let has : i < length x.1.kids = omega (arith, inside, is.kids) in
      let own = some_at x.1.kids i has in
      let many : up.0 < length l.first = (let w : up.0 < length l.entries = within h.entries top l lay path up.0 up.1 in omega (arith, w, lay.whole)) in
      let begin = some_at l.first up.0 many in
      (begin.0 + i, step h.entries top l lay path up.0 i begin.0 x.0 own.0 up.1 x.2 begin.1 (ap (λ ks. slice_get ks i) (kids_are h.entries x.0 x.1 x.3) ∙ own.1))

  pub only : ((g : Graph) (i : ℕ) → IsCanonical g → i < length g.instances → Reached g (inst i)) → (path : List ℕ) (p : ℕ) → place h.entries l path ≡ Some p
      → IsReachedPath (unfolding_of h.entries top) path
  only law [] p e = tt
  only law (i ∷ path) p e =
      let b = below h.entries l path i p e in
      let x = graphs path b.p b.above in
      let is : IsForm x.1 = legal.forms x.0.0 x.1 x.3 in
      let same : b.own.id ≡ x.0 = some_once (sym b.own.entry_is ∙ x.2) in
      let own : slice_get x.1.kids i ≡ Some b.own.kid = ap (λ ks. slice_get ks i) (sym (kids_are h.entries x.0 x.1 x.3)) ∙ ap (λ (y : EntryId). slice_get (kids_of h.entries y) i)
      (sym same) ∙ b.own.kid_is in
      let has : i < length x.1.kids = slice_get_within x.1.kids i b.own.kid own in
      let inside : i < length x.1.circuit.instances = omega (arith, has, is.kids) in
      (only law path b.p b.above, subst (λ g. Reached g (inst i)) (sym x.4) (law x.1.circuit i is.canonical inside))
