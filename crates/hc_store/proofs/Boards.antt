-- What a number that is put, and marks that are set, make of the numbers and marks by path.
use Rattle.std.proofs.Common.{◌≡◌, ◌≢◌, ℕ, ◌<◌, Bool, true, ◌⊎◌, inl, inr, List, ◌∷◌, length, map, refl, sym, ap, ap₂, subst, ◌∙◌, arith}
use Rattle.std.specs.Prelude.{Option, Some, None, slice_get, slice_set}
use Rattle.std.proofs.lemmas.Option.{slice_get_within}
use Rattle.hc_bits.specs.BitVector.{BitVector}
use Rattle.hc_signal.specs.Member.{Has}
use Rattle.hc_signal.specs.Occurrences.{Occurrence}
use Rattle.hc_rows.specs.Rows.{row_at, flat, number_of}
use Rattle.hc_settling.specs.Known.{at_path}
use Rattle.hc_settling.specs.Settling.{IsWoken, IsPut, kept, put, IsClosed}
use Rattle.hc_values.specs.Rows.{number_of as value_of, number_at}
use Rattle.hc_store.specs.declared.store.Store.{Store}
use Rattle.hc_store.specs.Given.{Given}
use Rattle.hc_store.specs.Marks.{IsOn, AreClosed, AreMoreMarked}
use Rattle.hc_store.specs.Scene.{Scene, Shows, AreAmong, row_for, flag_of, number, mark, board}
use Rattle.hc_store.specs.Stored.{IsStoreOf, IsRowPut, kept as row_kept, put as row_put}
use Rattle.hc_store.proofs.FlatRows.{same_numbers, same_size, flat_get}
use Rattle.hc_store.proofs.Wakes.{equal_or_not, get_at, set_here, set_other}
use Rattle.hc_store.proofs.Widths.{row_set_here, row_set_other, row_there}

-- ---- marks

flag_on : (o : Option Bool) → flag_of o ≡ true → o ≡ Some true
flag_on None e = absurd cc
flag_on (Some b) e = ap (λ (c : Bool). Some c) e

-- a mark of a row as one among all
on_flat : (rows : List (List Bool)) (p k : ℕ) → slice_get (row_at rows p) k ≡ Some true → IsOn (flat rows) (number_of rows p k)
on_flat rows p k e = flat_get rows p k (slice_get_within (row_at rows p) k true e) ∙ e

on_row : (rows : List (List Bool)) (p k : ℕ) → k < length (row_at rows p) → IsOn (flat rows) (number_of rows p k) → slice_get (row_at rows p) k ≡ Some true
on_row rows p k l e = sym (flat_get rows p k l) ∙ e

module _ (s : Scene) (g : Given) (shows : Shows s g) where
  pub number_at_path : (values : List (List BitVector)) (p : ℕ) (path : List ℕ) (n : ℕ) → s.place path ≡ Some p → number s values (at_path path n) ≡ number_at (row_at values p) n
  number_at_path values p path n e = ap (λ (o : Option ℕ). number_at (row_for values o) n) e

  pub mark_at_path : (stale : List (List Bool)) (p : ℕ) (path : List ℕ) (k : ℕ) → s.place path ≡ Some p → mark s stale path k ≡ flag_of (slice_get (row_at stale p) k)
  mark_at_path stale p path k e = ap (λ (o : Option ℕ). flag_of (slice_get (row_for stale o) k)) e

  -- where a mark is
  mark_place : (stale : List (List Bool)) (path : List ℕ) (k : ℕ) (o : Option ℕ) → s.place path ≡ o → flag_of (slice_get (row_for stale o) k) ≡ true
      → (p : ℕ) × (s.place path ≡ Some p) × (slice_get (row_at stale p) k ≡ Some true)
  mark_place stale path k None e m = absurd cc
  mark_place stale path k (Some p) e m = (p, e, flag_on (slice_get (row_at stale p) k) m)

  marked_at : (stale : List (List Bool)) (path : List ℕ) (k : ℕ) → mark s stale path k ≡ true → (p : ℕ) × (s.place path ≡ Some p) × (slice_get (row_at stale p) k ≡ Some true)
  marked_at stale path k m = mark_place stale path k (s.place path) refl m

  marked : (stale : List (List Bool)) (p : ℕ) (path : List ℕ) (k : ℕ) → s.place path ≡ Some p → slice_get (row_at stale p) k ≡ Some true → mark s stale path k ≡ true
  marked stale p path k e m = mark_at_path stale p path k e ∙ ap flag_of m

  -- what is closed by number is closed by path
  pub closed_by_path : (stale : List (List Bool)) → map length stale ≡ map length g.up → AreClosed (flat g.up) (flat stale) → IsClosed s.tree s.plans (mark s stale)
  closed_by_path stale shape closed path part i b reached h m =
      let q = marked_at stale (i ∷ path) b m in
      let inside = slice_get_within (row_at stale q.0) b true q.2 in
      let many : length (row_at stale q.0) ≡ length (row_at g.up q.0) = same_size stale g.up q.0 shape in
      let in_up : b < length (row_at g.up q.0) = omega (arith, inside, many) in
      let u = get_at (row_at g.up q.0) b 0 in_up in
      let r = shows.up q.0 i path part b _ q.1 h u in
      let numbers : number_of stale q.0 b ≡ number_of g.up q.0 b = same_numbers stale g.up q.0 b shape in
      let on_below : IsOn (flat stale) (number_of g.up q.0 b) = subst (IsOn (flat stale)) numbers (on_flat stale q.0 b q.2) in
      let on_above = closed (number_of g.up q.0 b) _ (flat_get g.up q.0 b in_up ∙ u) on_below in
      let number_above : number_of g.up r.0 part ≡ number_of stale r.0 part = sym (same_numbers stale g.up r.0 part shape) in
      let many_above : length (row_at stale r.0) ≡ length (row_at g.up r.0) = same_size stale g.up r.0 shape in
      let on_part : IsOn (flat stale) (number_of stale r.0 part) = subst (IsOn (flat stale)) (r.3 ∙ number_above) on_above in
      let part_in = r.2 in
      marked stale r.0 path part r.1 (on_row stale r.0 part (omega (arith, part_in, many_above)) on_part)

  module _ (p : ℕ) (path : List ℕ) (here : s.place path ≡ Some p) where
    pub woken : (all parts : List ℕ) (many : ℕ) (old new : List (List Bool)) → AreAmong parts all many → many ≡ length (row_at g.up p)
        → map length old ≡ map length g.up → AreClosed (flat g.up) (flat old) → AreMoreMarked g.up p all old new → IsWoken s.tree s.plans path parts (mark s old) (mark s new)
    woken all parts many old new among count shape closed more = record {
      grown = grown;
      there = there;
      closed = λ c. closed_by_path new (more.shape ∙ shape) (more.closed closed);
    }
      where
        grown : (q : List ℕ) (j : ℕ) → mark s old q j ≡ true → mark s new q j ≡ true
        grown q j m =
            let r = marked_at old q j m in
            let inside = slice_get_within (row_at old r.0) j true r.2 in
            let size : length (row_at new r.0) ≡ length (row_at old r.0) = same_size new old r.0 more.shape in
            let numbers : number_of old r.0 j ≡ number_of new r.0 j = sym (same_numbers new old r.0 j more.shape) in
            let on : IsOn (flat new) (number_of new r.0 j) = subst (IsOn (flat new)) numbers (more.grown (number_of old r.0 j) (on_flat old r.0 j r.2)) in
            marked new r.0 q j r.1 (on_row new r.0 j (omega (arith, inside, size)) on)

        there : (k : ℕ) → Has parts k → mark s new path k ≡ true
        there k h =
            let a = among k h in
            let inside = a.1 in
            let size_up : length (row_at old p) ≡ length (row_at g.up p) = same_size old g.up p shape in
            let size : length (row_at new p) ≡ length (row_at old p) = same_size new old p more.shape in
            let numbers : number_of old p k ≡ number_of new p k = sym (same_numbers new old p k more.shape) in
            let on : IsOn (flat new) (number_of new p k) = subst (IsOn (flat new)) numbers (more.there k a.0 (omega (arith, inside, count, size_up))) in
            marked new p path k here (on_row new p k (omega (arith, inside, count, size_up, size)) on)

    -- ---- a number

    one_vector : (x y : BitVector) → x.width ≡ y.width → x.value ≡ y.value → x ≡ y
    one_vector x y a b = ap₂ (λ (w v : ℕ). let z : BitVector = record { width = w; value = v } in z) a b

    put_number : (n : ℕ) (x : BitVector) (old : List (List BitVector)) → n < length (row_at old p) → number s (slice_set old p (slice_set (row_at old p) n x)) (at_path path n) ≡ x.value
    put_number n x old l =
        number_at_path (slice_set old p (slice_set (row_at old p) n x)) p path n here
        ∙ ap (λ (r : List BitVector). number_at r n) (row_set_here old p (slice_set (row_at old p) n x) (row_there old p n l))
        ∙ ap value_of (set_here (row_at old p) n x l)

    -- the numbers of an instance stay but for the one that is put
    other_number : (n : ℕ) (x : BitVector) (old : List (List BitVector)) (t : Occurrence) → n < length (row_at old p) → (o : Option ℕ) → s.place t.path ≡ o
        → (t ≡ at_path path n) ⊎ (number_at (row_for (slice_set old p (slice_set (row_at old p) n x)) o) t.node ≡ number_at (row_for old o) t.node)
    other_number n x old t l None e = inr refl
    other_number n x old t l (Some q) e = elim (equal_or_not p q) [
      | inr other ↦ inr (ap (λ (r : List BitVector). number_at r t.node) (row_set_other old p q (slice_set (row_at old p) n x) other))
      | inl same ↦ elim (equal_or_not n t.node) [
        | inl node ↦ inl (one_place t (same_path q same e) node)
        | inr node ↦ inr (at_same q same node)
      ]
    ]
      where
        same_path : (q : ℕ) → p ≡ q → s.place t.path ≡ Some q → t.path ≡ path
        same_path q same e = shows.apart q t.path path e (here ∙ ap (λ (k : ℕ). Some k) same)

        one_place : (t : Occurrence) → t.path ≡ path → n ≡ t.node → t ≡ at_path path n
        one_place t a b = ap₂ (λ (q : List ℕ) (m : ℕ). at_path q m) a (sym b)

        at_same : (q : ℕ) → p ≡ q → n ≢ t.node → number_at (row_at (slice_set old p (slice_set (row_at old p) n x)) q) t.node ≡ number_at (row_at old q) t.node
        at_same q same node = subst (λ (k : ℕ). number_at (row_at (slice_set old p (slice_set (row_at old p) n x)) k) t.node ≡ number_at (row_at old k) t.node) same
            (ap (λ (r : List BitVector). number_at r t.node) (row_set_here old p (slice_set (row_at old p) n x) (row_there old p n l)) ∙ ap value_of (set_other (row_at old p) n t.node x node))

    pub is_put : (n : ℕ) (x : BitVector) (all parts : List ℕ) (many : ℕ) (old new : Store) → AreAmong parts all many → many ≡ length (row_at g.up p) → IsStoreOf g old
        → n < length (row_at old.values p) → ((y : BitVector) → slice_get (row_at old.values p) n ≡ Some y → y.width ≡ x.width)
        → IsRowPut g.up p n x all old new → IsPut s.tree s.plans path n x.value parts (board s old) (board s new)
    is_put n x all parts many old _ among count fit l width (row_kept e) = kept (number_at_path old.values p path n here ∙ ap value_of e)
    is_put n x all parts many old new among count fit l width (row_put other more values moved) =
        put (λ e. other (is_there (slice_get (row_at old.values p) n) refl (sym (number_at_path old.values p path n here) ∙ e)))
        (woken all parts many old.stale new.stale among count fit.marks fit.closed more)
        (ap (λ (rows : List (List BitVector)). number s rows (at_path path n)) values ∙ put_number n x old.values l)
        (λ t. elim (other_number n x old.values t l (s.place t.path) refl) [
          | inl same ↦ inl same
          | inr stays ↦ inr (ap (λ (rows : List (List BitVector)). number s rows t) values ∙ stays)
        ])
      where
        is_there : (o : Option BitVector) → slice_get (row_at old.values p) n ≡ o → value_of (slice_get (row_at old.values p) n) ≡ x.value → slice_get (row_at old.values p) n ≡ Some x
        is_there None e v = absurd (nothing (get_at (row_at old.values p) n x l) e)
          where
            nothing : {X : Type 0} {a : Option X} {y : X} → a ≡ Some y → a ≡ None → ⊥
            nothing a b = cc
        is_there (Some y) e v = e ∙ ap (λ (z : BitVector). Some z) (one_vector y x (width y e) (sym (ap value_of e) ∙ v))
