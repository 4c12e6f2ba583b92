-- Each instance is the one at its path.
use Rattle.std.proofs.Common.{◌≡◌, ℕ, zero, suc, ◌+◌, ◌<◌, inl, inr, List, [], ◌∷◌, ◌++◌, length, refl, sym, ◌∙◌, ap, arith, length-append}
use Rattle.std.proofs.lemmas.Option.{slice_get_within}
use Rattle.std.proofs.lemmas.List.FromFn.{length-map-range_with_len}
use Rattle.std.specs.Prelude.{slice_get, Some}
use Rattle.hc_canon.specs.declared.form.EntryId.{EntryId}
use Rattle.hc_canon.specs.FormView.{FormView}
use Rattle.hc_canon.proofs.LaidOut.{slice_cases}
use Rattle.hc_dbstate.proofs.Triples.{some_once, some_at}
use Rattle.hc_layout.specs.Layout.{Layout, kids_of, place, IsLayout}
use Rattle.hc_layout.proofs.Placed.{apart, step, within}
use Rattle.hc_layout.proofs.RunnerRows.{slice_listed, IsNext, next_first, next_more}
use Rattle.hc_hierstate.specs.Paths.{own_paths, paths, paths_from}

pub own_path : (path : List ℕ) (n i : ℕ) (other : List ℕ) → slice_get (own_paths path n) i ≡ Some other → (i < n) × (other ≡ i ∷ path)
own_path path n i other e =
    let many : length (own_paths path n) ≡ n = length-map-range_with_len (λ (k : ℕ). k ∷ path) 0 n in
    let w : i < length (own_paths path n) = slice_get_within (own_paths path n) i other e in
    let h : i < n = omega (arith, w, many) in
    let z : 0 + i ≡ i = omega arith in
    (h, some_once (sym e ∙ slice_listed (λ (k : ℕ). k ∷ path) 0 n i h) ∙ ap (λ (k : ℕ). k ∷ path) z)

module _ (forms : List FormView) (top : EntryId) (l : Layout) (lay : IsLayout forms top l) where
  -- the paths of the instances from number p on that have one so far
  pub record AreWaiting (p : ℕ) (waiting : List (List ℕ)) : Type 0 where
    pub next : IsNext l p (p + length waiting)
    pub placed : (k : ℕ) (path : List ℕ) → slice_get waiting k ≡ Some path → place forms l path ≡ Some (p + k)

  -- the entries from number p on
  pub record AreLeft (p : ℕ) (ids : List EntryId) : Type 0 where
    pub many : p + length ids ≡ length l.entries
    pub each : (k : ℕ) → slice_get ids k ≡ slice_get l.entries (p + k)

  first_placed : (k : ℕ) (path : List ℕ) → slice_get ([] ∷ []) k ≡ Some path → place forms l path ≡ Some (0 + k)
  first_placed zero path e = ap (place forms l) (sym (some_once e))
  first_placed (suc k) path e = cc

  pub first_waiting : AreWaiting 0 ([] ∷ [])
  first_waiting = record { next = next_first forms top l lay; placed = first_placed }

  pub first_left : AreLeft 0 l.entries
  first_left = record { many = omega arith; each = λ k. (let z : k ≡ 0 + k = omega arith in ap (slice_get l.entries) z) }

  left_less : (p : ℕ) (id : EntryId) (ids : List EntryId) → AreLeft p (id ∷ ids) → AreLeft (p + 1) ids
  left_less p id ids left = record {
    many = (let e : p + suc (length ids) ≡ length l.entries = left.many in omega (arith, e));
    each = λ k. (let z : p + suc k ≡ p + 1 + k = omega arith in left.each (suc k) ∙ ap (slice_get l.entries) z);
  }

  here : (p : ℕ) (id : EntryId) (ids : List EntryId) → AreLeft p (id ∷ ids) → slice_get l.entries p ≡ Some id
  here p id ids left = let z : p ≡ p + 0 = omega arith in ap (slice_get l.entries) z ∙ sym (left.each 0)

  -- the first waiting path is that of the next instance, and the paths of its own instances wait behind all others
  module _ (p : ℕ) (id : EntryId) (path : List ℕ) (waiting : List (List ℕ)) (at : slice_get l.entries p ≡ Some id) (are : AreWaiting p (path ∷ waiting)) where
    there : p < length l.entries
    there = slice_get_within l.entries p id at

    begins : slice_get l.first p ≡ Some (p + suc (length waiting))
    begins = are.next.begins there

    own_many : length (own_paths path (length (kids_of forms id))) ≡ length (kids_of forms id)
    own_many = length-map-range_with_len (λ (k : ℕ). k ∷ path) 0 (length (kids_of forms id))

    more : ℕ
    more = length (waiting ++ own_paths path (length (kids_of forms id)))

    all_many : length (waiting ++ own_paths path (length (kids_of forms id))) ≡ length waiting + length (kids_of forms id)
    all_many = length-append waiting (own_paths path (length (kids_of forms id))) ∙ ap (λ (n : ℕ). length waiting + n) own_many

    counted : (other : EntryId) → slice_get l.entries p ≡ Some other → p + 1 + length (waiting ++ own_paths path (length (kids_of forms id))) ≡ p + suc (length waiting) + length (kids_of forms other)
    counted other e =
        let same : length (kids_of forms id) ≡ length (kids_of forms other) = ap (λ (x : EntryId). length (kids_of forms x)) (some_once (sym at ∙ e)) in
        omega (arith, all_many, same)

    placed_here : place forms l path ≡ Some p
    placed_here = let z : p + 0 ≡ p = omega arith in are.placed 0 path refl ∙ ap Some z

    placed_more : (k : ℕ) (other : List ℕ) → slice_get (waiting ++ own_paths path (length (kids_of forms id))) k ≡ Some other → place forms l other ≡ Some (p + 1 + k)
    placed_more k other e = elim (slice_cases waiting (own_paths path (length (kids_of forms id))) k other e) [
      | inl a ↦ (let z : p + suc k ≡ p + 1 + k = omega arith in are.placed (suc k) other a ∙ ap Some z)
      | inr b ↦ own b.0 b.1 b.2
    ]
      where
        own : (j : ℕ) → k ≡ length waiting + j → slice_get (own_paths path (length (kids_of forms id))) j ≡ Some other → place forms l other ≡ Some (p + 1 + k)
        own j f g =
            let o = own_path path (length (kids_of forms id)) j other g in
            let kid = some_at (kids_of forms id) j o.0 in
            let z : p + suc (length waiting) + j ≡ p + 1 + k = omega (arith, f) in
            ap (place forms l) o.1 ∙ step forms top l lay path p j (p + suc (length waiting)) id kid.0 placed_here at begins kid.1 ∙ ap Some z

    pub waiting_more : AreWaiting (p + 1) (waiting ++ own_paths path (length (kids_of forms id)))
    waiting_more = record {
      next = next_more forms top l p (p + suc (length waiting)) (p + 1 + length (waiting ++ own_paths path (length (kids_of forms id)))) lay there begins counted;
      placed = placed_more;
    }

  some_waiting : (p : ℕ) (id : EntryId) → slice_get l.entries p ≡ Some id → AreWaiting p [] → ⊥
  some_waiting p id at are =
      let w : p < length l.entries = slice_get_within l.entries p id at in
      let z : p < p + 0 = lay.laid.behind p (p + 0) (are.next.begins w) in
      omega (arith, z)

  many_from : (p : ℕ) (ids : List EntryId) (waiting : List (List ℕ)) → AreLeft p ids → AreWaiting p waiting → length (paths_from forms ids waiting) ≡ length ids
  many_from p [] waiting left are = refl
  many_from p (id ∷ ids) [] left are = absurd (some_waiting p id (here p id ids left) are)
  many_from p (id ∷ ids) (path ∷ waiting) left are =
      ap suc (many_from (p + 1) ids (waiting ++ own_paths path (length (kids_of forms id))) (left_less p id ids left) (waiting_more p id path waiting (here p id ids left) are))

  placed_from : (p : ℕ) (ids : List EntryId) (waiting : List (List ℕ)) → AreLeft p ids → AreWaiting p waiting → (k : ℕ) (path : List ℕ) → slice_get (paths_from forms ids waiting) k ≡ Some path
      → place forms l path ≡ Some (p + k)
  placed_from p [] waiting left are k path e = cc
  placed_from p (id ∷ ids) [] left are k path e = absurd (some_waiting p id (here p id ids left) are)
  placed_from p (id ∷ ids) (first ∷ waiting) left are zero path e = are.placed 0 path e
  placed_from p (id ∷ ids) (first ∷ waiting) left are (suc k) path e =
      let z : p + 1 + k ≡ p + suc k = omega arith in
      placed_from (p + 1) ids (waiting ++ own_paths first (length (kids_of forms id))) (left_less p id ids left) (waiting_more p id first waiting (here p id ids left) are) k path e ∙ ap Some z

  pub many_paths : length (paths forms l) ≡ length l.entries
  many_paths = many_from 0 l.entries ([] ∷ []) first_left first_waiting

  pub path_placed : (path : List ℕ) (p : ℕ) → slice_get (paths forms l) p ≡ Some path → place forms l path ≡ Some p
  path_placed path p e = let z : 0 + p ≡ p = omega arith in placed_from 0 l.entries ([] ∷ []) first_left first_waiting p path e ∙ ap Some z

  pub placed_path : (path : List ℕ) (p : ℕ) → place forms l path ≡ Some p → slice_get (paths forms l) p ≡ Some path
  placed_path path p e =
      let w : p < length l.entries = within forms top l lay path p e in
      let x = some_at (paths forms l) p (let v : p < length (paths forms l) = omega (arith, w, many_paths) in v) in
      x.1 ∙ ap Some (apart forms top l lay x.0 path p (path_placed x.0 p x.1) e)
