-- What became of rows, one after another.
use Rattle.std.proofs.Common.{◌≡◌, ℕ, zero, suc, ◌+◌, ◌<◌, ◌≤◌, List, [], ◌∷◌, ◌++◌, length, take, drop, get_or, refl, sym, ap, subst, ◌∙◌, arith}
use Rattle.std.proofs.lemmas.List.{length-map, map-append, take_more, take-append-drop, at_drop_more}
use Rattle.std.specs.Prelude.{slice_get, Option, Some, None, Vec}
use Rattle.hc_signal.specs.Tree.{Tree, tree}
use Rattle.hc_signal.specs.Occurrences.{HasCombLoop, AreMasks}
use Rattle.hc_paths.specs.declared.kinds.Paths.{Paths}
use Rattle.hc_paths.specs.Kids as paths
use Rattle.hc_paths.specs.Local.{AreMasksOfKids}
use Rattle.hc_canon.specs.declared.form.EntryId.{EntryId}
use Rattle.hc_canon.specs.FormView.{FormView, IsCanonOf}
use Rattle.hc_plan.specs.Hierarchies.{Done}
use Rattle.hc_plan.specs.Finishing.{Outcome, HaveMasks, all_done, put_first, outcome_in, masks_of}
use Rattle.hc_plan.specs.Stepping.{AreKidsOf, IsReady, IsLooped, outcome_of, outs_of}
use Rattle.hc_plan.specs.declared.kinds.PlanRow.{PlanRow}

-- what the code keeps of a row: its entry and its paths, where it is finished
abbrev pub Kept : Type 0
Kept = Option (EntryId × Paths)

-- the entries and the paths that were found
abbrev pub Found : Type 0 → Type 0
Found Z = Vec EntryId Z × Vec Paths Z

-- an outcome at a place, seen by its masks
pub seen_there : (outs : List Kept) (k : ℕ) (o : Kept) → k < length outs → o ≡ get_or outs k o
    → outcome_of o ≡ outcome_in (slice_get (outs_of outs) k)
seen_there [] k o l e = absurd (omega arith)
seen_there (x ∷ outs) zero o l e = ap outcome_of e
seen_there (x ∷ outs) (suc k) o l e = seen_there outs k o (omega arith) e

-- no outcome past the last
pub seen_past : (outs : List Kept) (k : ℕ) → length outs ≤ k → None ≡ outcome_in (slice_get (outs_of outs) k)
seen_past [] k l = refl
seen_past (x ∷ outs) zero l = absurd (omega arith)
seen_past (x ∷ outs) (suc k) l = seen_past outs k (omega arith)

-- one more row that is finished, after rows that are
one_more : (outs : List Outcome) (ks : List ℕ) (xs : List Done) (k : ℕ) (x : Done)
    → all_done outs ks ≡ Some xs → outcome_in (slice_get outs k) ≡ Some x
    → all_done outs (ks ++ k ∷ []) ≡ Some (xs ++ x ∷ [])
one_more outs [] xs k x all own =
    let e : Some [] ≡ Some xs = all in
    let same : [] ≡ xs = cc in
    ap (λ o. put_first o (Some [])) own ∙ ap (λ l. Some (l ++ x ∷ [])) same
one_more outs (j ∷ ks) xs k x all own =
    by (outcome_in (slice_get outs j)) (all_done outs ks) refl all (λ ys rest. one_more outs ks ys k x rest own)
  where
    by : (o : Outcome) (rest : Option (List Done)) → all_done outs ks ≡ rest → put_first o rest ≡ Some xs
        → ((ys : List Done) → all_done outs ks ≡ Some ys → all_done outs (ks ++ k ∷ []) ≡ Some (ys ++ x ∷ []))
        → put_first o (all_done outs (ks ++ k ∷ [])) ≡ Some (xs ++ x ∷ [])
    by None rest q e more = absurd cc
    by (Some y) None q e more = absurd cc
    by (Some y) (Some ys) q e more =
        let same : y ∷ ys ≡ xs = cc in
        ap (put_first (Some y)) (more ys q) ∙ ap (λ l. Some (l ++ x ∷ [])) same

-- a row among others that is not finished
none_there : (outs : List Outcome) (ks more : List ℕ) (k : ℕ) → outcome_in (slice_get outs k) ≡ None
    → all_done outs (ks ++ k ∷ more) ≡ None
none_there outs [] more k own = ap (λ o. put_first o (all_done outs more)) own
none_there outs (j ∷ ks) more k own =
    let o : Outcome = outcome_in (slice_get outs j) in
    ap (put_first o) (none_there outs ks more k own) ∙ by o
  where
    by : (o : Outcome) → put_first o None ≡ None
    by None = refl
    by (Some x) = refl

-- as many are done as rows were asked for
done_many : (outs : List Outcome) (ks : List ℕ) (xs : List Done) → all_done outs ks ≡ Some xs → length xs ≡ length ks
done_many outs [] xs all = (let same : [] ≡ xs = cc in ap length (sym same))
done_many outs (k ∷ ks) xs all = by (outcome_in (slice_get outs k)) (all_done outs ks) all (done_many outs ks)
  where
    by : (o : Outcome) (rest : Option (List Done)) → put_first o rest ≡ Some xs
        → ((ys : List Done) → rest ≡ Some ys → length ys ≡ length ks) → length xs ≡ length (k ∷ ks)
    by None rest e more = absurd cc
    by (Some y) None e more = absurd cc
    by (Some y) (Some ys) e more = (let same : y ∷ ys ≡ xs = cc in ap length (sym same) ∙ ap suc (more ys refl))

module _ {Z : Type 0} where
  -- the entries and the paths of one more row that is finished
  pub kid_added : (outs : List Outcome) (kids : List ℕ) (i d : ℕ) (old new : Found Z) (out : EntryId × Paths) (p : Paths)
      → i < length kids → AreKidsOf (all_done outs (take i kids)) (Some old)
      → Some (out.0, out.1.masks) ≡ outcome_in (slice_get outs (get_or kids i d))
      → new.0.items ≡ old.0.items ++ out.0 ∷ [] → new.1.items ≡ old.1.items ++ p ∷ [] → p.masks ≡ out.1.masks
      → AreKidsOf (all_done outs (take (i + 1) kids)) (Some new)
  kid_added outs kids i d old new out p l are own ids ps same =
      let more = by (all_done outs (take i kids)) refl are in
      subst (λ ks. AreKidsOf (all_done outs ks) (Some new)) (sym (take_more kids i d l)) more
    where
      by : (o : Option (List Done)) → all_done outs (take i kids) ≡ o → AreKidsOf o (Some old)
          → AreKidsOf (all_done outs (take i kids ++ get_or kids i d ∷ [])) (Some new)
      by None q a = absurd a
      by (Some xs) q a =
          let x : Done = (out.0, out.1.masks) in
          let ids_more = sym (map-append (λ (y : Done). y.0) xs (x ∷ [])) in
          let masks_more = sym (map-append (λ (y : Done). y.1) xs (x ∷ [])) in
          let paths_more = map-append (λ (y : Paths). y.masks) old.1.items (p ∷ []) in
          subst (λ o. AreKidsOf o (Some new)) (sym (one_more outs (take i kids) xs (get_or kids i d) x q (sym own))) (
            ids ∙ ap (λ l. l ++ out.0 ∷ []) a.0 ∙ ids_more,
            ap paths.masks_of ps ∙ paths_more ∙ ap (λ l. l ++ p.masks ∷ []) a.1 ∙ ap (λ m. masks_of xs ++ m ∷ []) same ∙ masks_more,
          )

-- not all are there where one row is not finished
pub kid_missing : (Z : Type 0) (outs : List Outcome) (kids : List ℕ) (i d : ℕ) → i < length kids
    → None ≡ outcome_in (slice_get outs (get_or kids i d)) → AreKidsOf {Z = Z} (all_done outs kids) None
kid_missing Z outs kids i d l own =
    let none = none_there outs (take i kids) (drop (i + 1) kids) (get_or kids i d) (sym own) in
    subst (λ o. AreKidsOf {Z = Z} o None) (sym (ap (all_done outs) (sym split) ∙ none)) tt
  where
    split : take i kids ++ get_or kids i d ∷ drop (i + 1) kids ≡ kids
    split = sym (ap (λ ys. take i kids ++ ys) (at_drop_more (λ ys. ys) kids i d l)) ∙ take-append-drop i kids

-- ---- what a row gives over its kids

-- the kids that were found
pub kids_found : {Z : Type 0} (outs : List Outcome) (given ks : List ℕ) (o : Option (Found Z)) (found : Found Z)
    → given ≡ ks → o ≡ Some found → AreKidsOf (all_done outs given) o → AreKidsOf (all_done outs ks) (Some found)
kids_found outs given ks o found same is are =
    subst (λ l. AreKidsOf (all_done outs l) (Some found)) same (subst (AreKidsOf (all_done outs given)) is are)

-- there is an entry for each kid
pub kids_many : {Z : Type 0} (outs : List Outcome) (ks : List ℕ) (found : Found Z) → AreKidsOf (all_done outs ks) (Some found)
    → length found.0.items ≡ length ks
kids_many {Z} outs ks found are = by (all_done outs ks) refl are
  where
    by : (o : Option (List Done)) → all_done outs ks ≡ o → AreKidsOf o (Some found) → length found.0.items ≡ length ks
    by None q a = absurd a
    by (Some xs) q a = ap length a.0 ∙ length-map xs (λ (x : Done). x.0) ∙ done_many outs ks xs q

module _ {Z : Type 0} (outs : List Outcome) (row : PlanRow) (found : Found Z) (ids : List EntryId) (ps : List Paths) where
  -- whatever the trees of the kids with these masks
  abbrev pub Whatever : (Tree → Type 0) → Type 0
  Whatever P =
      (trees : ℕ → Tree) → AreMasksOfKids (tree row.body.circuit trees) (paths.masks_of ps) → P (tree row.body.circuit trees)

  -- the same of the kids that were found
  over_kids : (kids : List Done) (P : Tree → Type 0) → paths.masks_of ps ≡ masks_of kids → Whatever P
      → (trees : ℕ → Tree) → HaveMasks row.body.circuit kids trees → P (tree row.body.circuit trees)
  over_kids kids P same all trees have =
      all trees (subst (AreMasksOfKids (tree row.body.circuit trees)) (sym same) have)

  -- a row with its form and its masks, without a loop
  pub row_ready : (form : FormView) (masks : List ℕ) → AreKidsOf (all_done outs row.kids) (Some found)
      → ids ≡ found.0.items → ps ≡ found.1.items → IsCanonOf row.body.circuit ids form
      → Whatever (λ t. AreMasks t masks) → Whatever (λ t. ¬ HasCombLoop t) → IsReady outs row form masks
  row_ready form masks are one two canon right free = by (all_done outs row.kids) refl are
    where
      by : (o : Option (List Done)) → all_done outs row.kids ≡ o → AreKidsOf o (Some found) → IsReady outs row form masks
      by None q a = absurd a
      by (Some kids) q a =
          let same : paths.masks_of ps ≡ masks_of kids = ap paths.masks_of two ∙ a.1 in
          record {
            kids = kids;
            done = q;
            canon = subst (λ l. IsCanonOf row.body.circuit l form) (one ∙ a.0) canon;
            right = over_kids kids (λ t. AreMasks t masks) same right;
            free = over_kids kids (λ t. ¬ HasCombLoop t) same free;
          }

  -- a row with a loop
  pub row_looped : AreKidsOf (all_done outs row.kids) (Some found) → ps ≡ found.1.items → Whatever HasCombLoop → IsLooped outs row
  row_looped are two loop = by (all_done outs row.kids) refl are
    where
      by : (o : Option (List Done)) → all_done outs row.kids ≡ o → AreKidsOf o (Some found) → IsLooped outs row
      by None q a = absurd a
      by (Some kids) q a =
          let same : paths.masks_of ps ≡ masks_of kids = ap paths.masks_of two ∙ a.1 in
          record { kids = kids; done = q; loop = over_kids kids HasCombLoop same loop }
