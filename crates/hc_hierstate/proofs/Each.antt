-- What each instance has, in one list.
use Rattle.std.proofs.Common.{◌≡◌, ℕ, zero, suc, inl, inr, List, [], ◌∷◌, ◌++◌, map, refl, sym, subst, ◌∙◌, ap, ap₂}
use Rattle.std.specs.Prelude.{slice_get, Some}
use Rattle.std.proofs.lemmas.List.{map-append}
use Rattle.hc_signal.specs.Member.{Has, first, later}
use Rattle.hc_signal.specs.Graph.{Graph}
use Rattle.hc_signal.specs.Occurrences.{Occurrence}
use Rattle.hc_walk.proofs.Members.{has_cases, has_from_map, has_left, has_right, has_slice}
use Rattle.hc_walk.proofs.Walks.{AllDifferent}
use Rattle.hc_canon.specs.declared.form.EntryId.{EntryId}
use Rattle.hc_canon.specs.FormView.{FormView}
use Rattle.hc_dbstate.proofs.Triples.{some_once}
use Rattle.hc_hierstate.specs.States.{circuit_of, of_each}
use Rattle.hc_hierstate.proofs.Differ.{differ_both, key}

-- an item of the list, and the instance that has it
pub record IsOfSome {X : Type 0} (forms : List FormView) (f : ℕ → Graph → List ℕ → List X) (ids : List EntryId) (paths : List (List ℕ)) (x : X) : Type 0 where
  pub p : ℕ
  pub entry : EntryId
  pub path : List ℕ
  pub entry_is : slice_get ids p ≡ Some entry
  pub path_is : slice_get paths p ≡ Some path
  pub has : Has (f p (circuit_of forms entry) path) x

pub has_each : {X : Type 0} (forms : List FormView) (f : ℕ → Graph → List ℕ → List X) (ids : List EntryId) (paths : List (List ℕ)) (x : X)
    → Has (of_each forms f ids paths) x → IsOfSome forms f ids paths x
has_each forms f [] paths x h = elim h [ ]
has_each forms f (id ∷ ids) [] x h = elim h [ ]
has_each forms f (id ∷ ids) (path ∷ paths) x h = elim (has_cases (f 0 (circuit_of forms id) path) (of_each forms (λ (p : ℕ). f (suc p)) ids paths) h) [
  | inl a ↦ record { p = 0; entry = id; path = path; entry_is = refl; path_is = refl; has = a }
  | inr b ↦ (let r = has_each forms (λ (p : ℕ). f (suc p)) ids paths x b in record { p = suc r.p; entry = r.entry; path = r.path; entry_is = r.entry_is; path_is = r.path_is; has = r.has })
]

pub each_has : {X : Type 0} (forms : List FormView) (f : ℕ → Graph → List ℕ → List X) (ids : List EntryId) (paths : List (List ℕ)) (p : ℕ) (entry : EntryId) (path : List ℕ) (x : X)
    → slice_get ids p ≡ Some entry → slice_get paths p ≡ Some path → Has (f p (circuit_of forms entry) path) x → Has (of_each forms f ids paths) x
each_has forms f [] paths p entry path x a b h = cc
each_has forms f (id ∷ ids) [] p entry path x a b h = cc
each_has forms f (id ∷ ids) (q ∷ paths) zero entry path x a b h =
    has_left (of_each forms (λ (p : ℕ). f (suc p)) ids paths)
    (subst (λ (r : List ℕ). Has (f 0 (circuit_of forms id) r) x) (sym (some_once b)) (subst (λ (e : EntryId). Has (f 0 (circuit_of forms e) path) x) (sym (some_once a)) h))
each_has forms f (id ∷ ids) (q ∷ paths) (suc p) entry path x a b h =
    has_right (f 0 (circuit_of forms id) q) (each_has forms (λ (p : ℕ). f (suc p)) ids paths p entry path x a b h)

-- a change of each item
pub map_each : {X Y : Type 0} (h : X → Y) (forms : List FormView) (f : ℕ → Graph → List ℕ → List X) (g : ℕ → Graph → List ℕ → List Y) (ids : List EntryId) (paths : List (List ℕ))
    → ((p : ℕ) (entry : EntryId) (path : List ℕ) → slice_get ids p ≡ Some entry → slice_get paths p ≡ Some path → map h (f p (circuit_of forms entry) path) ≡ g p (circuit_of forms entry) path)
    → map h (of_each forms f ids paths) ≡ of_each forms g ids paths
map_each h forms f g [] paths same = refl
map_each h forms f g (id ∷ ids) [] same = refl
map_each h forms f g (id ∷ ids) (path ∷ paths) same =
    map-append h (f 0 (circuit_of forms id) path) (of_each forms (λ (p : ℕ). f (suc p)) ids paths)
    ∙ ap₂ (λ xs ys. xs ++ ys) (same 0 id path refl refl)
    (map_each h forms (λ (p : ℕ). f (suc p)) (λ (p : ℕ). g (suc p)) ids paths (λ p entry path' a b. same (suc p) entry path' a b))

-- pairs whose keys have the path of their instance, each once
pub record AreOwn {X : Type 0} (path : List ℕ) (es : List (Occurrence × X)) : Type 0 where
  pub once : AllDifferent (map key es)
  pub paths : (s : Occurrence) → Has (map key es) s → s.path ≡ path

pub differ_each : {X : Type 0} (forms : List FormView) (f : ℕ → Graph → List ℕ → List (Occurrence × X)) → ((p : ℕ) (g : Graph) (path : List ℕ) → AreOwn path (f p g path))
    → (ids : List EntryId) (paths : List (List ℕ)) → AllDifferent paths → AllDifferent (map key (of_each forms f ids paths))
differ_each forms f own [] paths d = tt
differ_each forms f own (id ∷ ids) [] d = tt
differ_each {X} forms f own (id ∷ ids) (path ∷ paths) d =
    subst (λ ss. AllDifferent ss) (sym (map-append key (f 0 (circuit_of forms id) path) (of_each forms (λ (p : ℕ). f (suc p)) ids paths)))
    (differ_both (map key (f 0 (circuit_of forms id) path)) (map key (of_each forms (λ (p : ℕ). f (suc p)) ids paths)) (own 0 (circuit_of forms id) path).once
    (differ_each forms (λ (p : ℕ). f (suc p)) (λ p. own (suc p)) ids paths d.1) apart)
  where
    apart : (s : Occurrence) → Has (map key (f 0 (circuit_of forms id) path)) s → Has (map key (of_each forms (λ (p : ℕ). f (suc p)) ids paths)) s → ⊥
    apart s a b =
        let u : (e : Occurrence × X) × Has (of_each forms (λ (p : ℕ). f (suc p)) ids paths) e × (key e ≡ s) = has_from_map key (of_each forms (λ (p : ℕ). f (suc p)) ids paths) s b in
        let r = has_each forms (λ (p : ℕ). f (suc p)) ids paths u.0 u.1 in
        let there : s.path ≡ r.path = ap (λ (z : Occurrence). z.path) (sym u.2) ∙ (own (suc r.p) (circuit_of forms r.entry) r.path).paths (key u.0) (key_of r.has) in
        let here : s.path ≡ path = (own 0 (circuit_of forms id) path).paths s a in
        d.0 (subst (λ (q : List ℕ). Has paths q) (sym there ∙ here) (has_slice paths r.p r.path r.path_is))
      where
        key_of : {es : List (Occurrence × X)} {e : Occurrence × X} → Has es e → Has (map key es) (key e)
        key_of first = first
        key_of (later h) = later (key_of h)
