-- The hierarchy of a row, over those of its children.
use Rattle.std.proofs.Common.{◌≡◌, ℕ, zero, suc, ◌+◌, ◌-◌, ◌<◌, max, List, [], ◌∷◌, ◌++◌, length, map, fold, take, get_or, refl, sym, ap, subst, ◌∙◌, ◌⊎◌, inl, inr, arith, length-append}
use Rattle.std.proofs.lemmas.List.{length-map, map-append, take_more}
use Rattle.std.proofs.lemmas.Option.{slice_get_read, slice_get_within, slice_get-map}
use Rattle.std.specs.Prelude.{slice_get, Option, Some, option_map, unwrap_or, Result, Ok, Err, IfOk}
use Rattle.std.specs.Arc.{arc_value}
use Rattle.std.specs.declared.alloc.Global.{Global}
use Rattle.std.specs.declared.sync.Arc.{Arc}
use Rattle.hc_canon.specs.declared.form.EntryId.{EntryId}
use Rattle.hc_fault.specs.declared.fault.Fault.{Fault}
use Rattle.hc_paths.specs.declared.kinds.Paths.{Paths}
use Rattle.hc_lang.specs.declared.tree.CircuitText.{CircuitText}
use Rattle.hc_lang.specs.declared.tree.Design.{Design}
use Rattle.hc_signal.specs.Member.{Has, first, later}
use Rattle.hc_dbstate.specs.declared.hier.Hier.{Hier, roll-Hier}
use Rattle.hc_dbstate.specs.declared.hier.Hier.TheOpen.{Hier-F}
use Rattle.hc_dbstate.specs.declared.hier.Hier.TheFolds.{fold-roll-Hier, map-Hier}
use Rattle.hc_dbstate.specs.Elaboration.{HierView, hier_level, hier_view, kids_in, row_level}
use Rattle.hc_dbstate.proofs.Walks.{kid_views}
use Rattle.hc_body.specs.BodyOf.{IsCall, IsCallOf}
use Rattle.hc_plan.specs.Elaborates.{FinishedCall, highest}
use Rattle.hc_plan.specs.Hierarchies.{AreFirstHiers, AreHiersAt, Done, IsHierAt, of_row, no_kids, with_kid, row_of_call, view_over, views_of}
use Rattle.hc_plan.specs.Plan.{IsRowOf, IsPlanOf}
use Rattle.hc_plan.specs.Stepping.{dones_of}
use Rattle.hc_plan.specs.declared.kinds.PlanRow.{PlanRow}

-- ---- a hierarchy that is put together

abbrev levels_of : List HierView → List ℕ
levels_of views = map (λ (k : HierView). k.levels) views

abbrev most_from : ℕ → List HierView → ℕ
most_from n views = fold (λ (m : ℕ) (k : HierView). max m k.levels) n views

levels_over : (vs : List HierView) (n : ℕ) → most_from n vs ≡ max n (highest (levels_of vs))
levels_over [] n = omega arith
levels_over (v ∷ vs) n =
    let e : most_from (max n v.levels) vs ≡ max (max n v.levels) (highest (levels_of vs)) = levels_over vs (max n v.levels) in
    omega (arith, e)

from_none : (n : ℕ) → max 0 n ≡ n
from_none n = omega arith

level_over : (x : Hier-F HierView) → hier_level x ≡ view_over (row_level x) (kids_in x)
level_over x =
    let same : most_from 0 (kids_in x) ≡ highest (levels_of (kids_in x)) = levels_over (kids_in x) 0 ∙ from_none _ in
    let with_levels : ℕ → HierView = λ n. record { own = row_level x; calls = (hier_level x).calls; levels = suc n } in
    ap with_levels same

-- a hierarchy is its own call over the hierarchies of its children
pub made_over : (x : Hier-F Hier)
    → hier_view (roll-Hier x) ≡ view_over (row_level (map-Hier Hier HierView hier_view x)) (views_of x.kids)
made_over x =
    fold-roll-Hier HierView hier_level x ∙ level_over (map-Hier Hier HierView hier_view x)
    ∙ ap (view_over (row_level (map-Hier Hier HierView hier_view x))) (kid_views x)

-- ---- lists that were read

has_read : {X : Type 0} (xs : List X) (i : ℕ) (x : X) → i < length xs → Has xs (get_or xs i x)
has_read [] i x b = absurd (omega (arith, b))
has_read (y ∷ xs) zero x b = first
has_read (y ∷ xs) (suc i) x b = later (has_read xs i x (omega (arith, b)))

-- the element at a place
pub some_at : {X : Type 0} (xs : List X) (k : ℕ) → k < length xs → (x : X) × (slice_get xs k ≡ Some x)
some_at [] k b = absurd (omega (arith, b))
some_at (x ∷ xs) zero b = (x, refl)
some_at (x ∷ xs) (suc k) b = some_at xs k (omega (arith, b))

-- an element that was read stands at its place
pub read_at : {X : Type 0} (xs seen : List X) (i : ℕ) (x : X)
    → seen ≡ xs → i < length xs → x ≡ get_or seen i x → slice_get xs i ≡ Some x
read_at xs seen i x same l e = slice_get_read xs (length xs) i x refl l (e ∙ ap (λ ys. get_or ys i x) same)

-- an element of a list that is one longer
longer : {X : Type 0} (xs : List X) (y : X) (k : ℕ) (x : X)
    → slice_get (xs ++ y ∷ []) k ≡ Some x → (slice_get xs k ≡ Some x) ⊎ ((k ≡ length xs) × (y ≡ x))
longer [] y zero x e = inr (refl, ap (λ o. unwrap_or o y) e)
longer [] y (suc k) x e = absurd cc
longer (z ∷ xs) y zero x e = inl e
longer (z ∷ xs) y (suc k) x e = elim (longer xs y k x e) [ inl a ↦ inl a | inr b ↦ inr (ap suc b.0, b.1) ]

-- a child that was read stands at a lower place
pub kid_lower : (kids : List ℕ) (place i : ℕ)
    → ((k : ℕ) → Has kids k → k < place) → i < length kids → get_or kids i 0 < place
kid_lower kids place i below l = below (get_or kids i 0) (has_read kids i 0 l)

-- ---- a row of a plan

module _ (d : Design) (rows : List PlanRow) (stop : Option Fault) (plan : IsPlanOf d rows stop) (k : ℕ) (row : PlanRow)
    (at : slice_get rows k ≡ Some row) where
  first_finish : (x : FinishedCall) × IsRowOf d rows k row x
  first_finish =
      let within : k < length plan.firsts = subst (λ n. k < n) plan.are.many (slice_get_within rows k row at) in
      let x : (x : FinishedCall) × (slice_get plan.firsts k ≡ Some x) = some_at plan.firsts k within in
      (x.0, plan.are.each k row x.0 at x.1)

  -- its call is one of the design
  pub row_called : IsCall d row.call
  row_called = (first_finish.1.circuit, first_finish.1.of)

  -- its children stand at lower places
  pub kids_lower : (j : ℕ) → Has row.kids j → j < k
  kids_lower = first_finish.1.below

-- ---- hierarchies that calls share

abbrev Shared : Type 0
Shared = Arc Hier Global

-- as many as there are
pub views_many : (hiers : List Shared) → length (views_of hiers) ≡ length hiers
views_many hiers = length-map (map arc_value hiers) hier_view ∙ length-map hiers arc_value

-- one more at the end
pub views_more : (old new : List Shared) (hier : Shared) → new ≡ old ++ hier ∷ []
    → views_of new ≡ views_of old ++ hier_view (arc_value hier) ∷ []
views_more old new hier is =
    ap views_of is ∙ ap (map hier_view) (map-append arc_value old (hier ∷ [])) ∙ map-append hier_view (map arc_value old) (arc_value hier ∷ [])

pub shared_more : (old new : List Shared) (shared : Shared) (hier : Hier) → new ≡ old ++ shared ∷ [] → arc_value shared ≡ hier
    → views_of new ≡ views_of old ++ hier_view hier ∷ []
shared_more old new shared hier is same = views_more old new shared is ∙ ap (λ (h : Hier). views_of old ++ hier_view h ∷ []) same

-- one that was read
pub view_at : (hiers : List Shared) (k : ℕ) (hier copy : Shared) → k < length hiers → hier ≡ get_or hiers k hier
    → arc_value copy ≡ arc_value hier → slice_get (views_of hiers) k ≡ Some (hier_view (arc_value copy))
view_at hiers k hier copy l is same =
    let there : slice_get hiers k ≡ Some hier = slice_get_read hiers (length hiers) k hier refl l is in
    slice_get-map hier_view (map arc_value hiers) k ∙ ap (option_map hier_view) (slice_get-map arc_value hiers k ∙ ap (option_map arc_value) there)
    ∙ ap (λ (h : Hier). Some (hier_view h)) (sym same)

-- the hierarchies that were found for rows
abbrev AreFound : List HierView → List ℕ → List HierView → Type 0
AreFound views kids found = map Some found ≡ map (slice_get views) kids

-- of no row
pub none_found : (views : List HierView) (found : List Shared) → found ≡ [] → AreFound views [] (views_of found)
none_found views found e = ap (λ (hs : List Shared). map Some (views_of hs)) e

-- of one row more
pub one_found_more : (views : List HierView) (kids : List ℕ) (i : ℕ) (old new : List Shared) (hier : Shared) → i < length kids
    → AreFound views (take i kids) (views_of old) → slice_get views (get_or kids i 0) ≡ Some (hier_view (arc_value hier))
    → new ≡ old ++ hier ∷ [] → AreFound views (take (i + 1) kids) (views_of new)
one_found_more views kids i old new hier l before own is =
    ap (map Some) (views_more old new hier is) ∙ map-append Some (views_of old) (hier_view (arc_value hier) ∷ [])
    ∙ ap (λ found. found ++ Some (hier_view (arc_value hier)) ∷ []) before
    ∙ ap (λ o. map (slice_get views) (take i kids) ++ o ∷ []) (sym own)
    ∙ sym (map-append (slice_get views) (take i kids) (get_or kids i 0 ∷ []))
    ∙ ap (map (slice_get views)) (sym (take_more kids i 0 l))

-- ---- the hierarchies of some rows

module _ (d : Design) (rows : List PlanRow) (done : List Done) where
  -- of those that were found among the first rows
  pub hiers_found : (count : ℕ) (views : List HierView) → AreFirstHiers d rows done count views
      → (kids : List ℕ) (found : List HierView) → AreFound views kids found → AreHiersAt d rows done kids found
  hiers_found count views are [] [] e = no_kids
  hiers_found count views are [] (v ∷ vs) e = absurd cc
  hiers_found count views are (k ∷ ks) [] e = absurd cc
  hiers_found count views are (k ∷ ks) (v ∷ vs) e =
      let own : slice_get views k ≡ Some v = sym (head_is (Some v) (slice_get views k) (map Some vs) (map (slice_get views) ks) e) in
      with_kid (are.each k v own) (hiers_found count views are ks vs (tail_is (Some v) (slice_get views k) (map Some vs) (map (slice_get views) ks) e))
    where
      head_is : {X : Type 0} (x y : X) (xs ys : List X) → x ∷ xs ≡ y ∷ ys → x ≡ y
      head_is x y xs ys e = cc

      tail_is : {X : Type 0} (x y : X) (xs ys : List X) → x ∷ xs ≡ y ∷ ys → xs ≡ ys
      tail_is x y xs ys e = cc

  -- of a list that is the same
  pub first_as : (count : ℕ) (xs ys : List Shared) → ys ≡ xs → AreFirstHiers d rows done count (views_of xs)
      → AreFirstHiers d rows done count (views_of ys)
  first_as count xs ys is are = subst (λ hs. AreFirstHiers d rows done count (views_of hs)) (sym is) are

  -- of no first row
  pub no_first_hiers : (views : List HierView) → views ≡ [] → AreFirstHiers d rows done 0 views
  no_first_hiers views e = subst (AreFirstHiers d rows done 0) (sym e) (record { many = refl; each = λ k view there. absurd cc })

  -- of one first row more
  pub one_first_more : (count : ℕ) (old new : List HierView) (view : HierView) → AreFirstHiers d rows done count old
      → IsHierAt d rows done count view → new ≡ old ++ view ∷ [] → AreFirstHiers d rows done (count + 1) new
  one_first_more count old new view are own is = subst (AreFirstHiers d rows done (count + 1)) (sym is) (record {
    many = length-append old (view ∷ []) ∙ ap (λ n. n + 1) are.many;
    each = λ k v there. elim (longer old view k v there) [
      | inl a ↦ are.each k v a
      | inr b ↦ subst (λ n. IsHierAt d rows done n v) (sym (b.0 ∙ are.many)) (subst (IsHierAt d rows done count) b.1 own)
    ];
  })

-- ---- the hierarchy of a row

-- what is done of a row, seen by its masks
abbrev pub seen_done : EntryId × Paths → Done
seen_done x = (x.0, x.1.masks)

-- the hierarchy is what is done of a row over these
abbrev pub IsOver : CircuitText → PlanRow → EntryId × Paths → List Shared → Hier → Type 0
IsOver c row own kids h = hier_view h ≡ view_over (row_of_call c row (seen_done own)) (views_of kids)

module _ {E : Type 0} (d : Design) (rows : List PlanRow) (done : List (EntryId × Paths)) where
  -- over the hierarchies of its children
  pub hier_of_row : (seen : List PlanRow) (k : ℕ) (row : PlanRow) (c : CircuitText) (own : EntryId × Paths)
      (ks : List ℕ) (below : List HierView) (kids : List Shared) (r : Result Hier E) → seen ≡ rows → length done ≡ length rows → k < length rows
      → row ≡ get_or seen k row → own ≡ get_or done k own → IsCallOf d row.call c → ks ≡ row.kids
      → AreFirstHiers d rows (dones_of done) k below → AreFound below ks (views_of kids) → IfOk r (IsOver c row own kids)
      → IfOk r (λ h. IsHierAt d rows (dones_of done) k (hier_view h))
  hier_of_row seen k row c own ks below kids (Err e) same many l at there of these are found is = tt
  hier_of_row seen k row c own ks below kids (Ok h) same many l at there of these are found is =
      let within : k < length done = omega (arith, many, l) in
      let stored : slice_get done k ≡ Some own = slice_get_read done (length done) k own refl within there in
      let mine : slice_get (dones_of done) k ≡ Some (seen_done own) =
      slice_get-map seen_done done k ∙ ap (option_map seen_done) stored in
      let kids_are : AreHiersAt d rows (dones_of done) row.kids (views_of kids) =
      subst (λ js. AreHiersAt d rows (dones_of done) js (views_of kids)) these (hiers_found d rows (dones_of done) k below are ks (views_of kids) found) in
      let row_there : slice_get rows k ≡ Some row = read_at rows seen k row same l at in
      subst (IsHierAt d rows (dones_of done) k) (sym is) (of_row row c (seen_done own) row_there mine of kids_are)

  -- the last row
  pub hier_of_last : (n : ℕ) (r : Result Hier E) → n ≡ length rows
      → IfOk r (λ h. IsHierAt d rows (dones_of done) (n - 1) (hier_view h))
      → IfOk r (λ h. (k : ℕ) → suc k ≡ length rows → IsHierAt d rows (dones_of done) k (hier_view h))
  hier_of_last n (Err e) same at = tt
  hier_of_last n (Ok h) same at =
      λ k is. (let e : n - 1 ≡ k = omega (arith, same, is) in subst (λ j. IsHierAt d rows (dones_of done) j (hier_view h)) e at)
