-- A list with items written at ascending places.
use Rattle.std.proofs.Common.{◌≡◌, ℕ, zero, suc, ◌+◌, ◌<◌, ◌≤◌, List, [], ◌∷◌, ◌++◌, length, map, take, drop, get_or, refl, sym, ap, ap₂, subst, ◌∙◌, append_assoc, length-append, arith}
use Rattle.std.proofs.lemmas.List.{take_more}
use Rattle.std.proofs.lemmas.Option.{slice_get-get_or}
use Rattle.std.specs.Prelude.{slice_get, slice_set, Option, Some, unwrap_or}
use Rattle.hc_signal.specs.Member.{Has, first, later}
use Rattle.hc_paths.specs.declared.kinds.Paths.{Paths}
use Rattle.hc_canon.specs.declared.form.EntryId.{EntryId}
use Rattle.hc_plan.specs.Finishing.{Outcome, outcome_in}
use Rattle.hc_plan.specs.Stepping.{outcome_of, outs_of}
use Rattle.hc_workers.specs.Levels.{outcome_at, written}
use Rattle.hc_workers.proofs.Knowing.{has_at}

module _ {X : Type 0} where
  pub set_length : (xs : List X) (k : ℕ) (x : X) → length (slice_set xs k x) ≡ length xs
  set_length [] k x = refl
  set_length (y ∷ xs) zero x = refl
  set_length (y ∷ xs) (suc k) x = ap suc (set_length xs k x)

  set_same : (xs : List X) (k : ℕ) (x : X) → k < length xs → slice_get (slice_set xs k x) k ≡ Some x
  set_same [] k x l = absurd (omega (arith, l))
  set_same (y ∷ xs) zero x l = refl
  set_same (y ∷ xs) (suc k) x l = set_same xs k x (omega (arith, l))

  set_other : (xs : List X) (k j : ℕ) (x : X) → (j ≡ k → ⊥) → slice_get (slice_set xs k x) j ≡ slice_get xs j
  set_other [] k j x ne = refl
  set_other (y ∷ xs) zero zero x ne = absurd (ne refl)
  set_other (y ∷ xs) zero (suc j) x ne = refl
  set_other (y ∷ xs) (suc k) zero x ne = refl
  set_other (y ∷ xs) (suc k) (suc j) x ne = set_other xs k j x (λ e. ne (ap suc e))

  pub written_length : (xs : List X) (places : List ℕ) (list : List X) → length (written xs places list) ≡ length xs
  written_length xs [] list = refl
  written_length xs (k ∷ places) [] = refl
  written_length xs (k ∷ places) (o ∷ list) = written_length (slice_set xs k o) places list ∙ set_length xs k o

  -- other places keep their items
  pub written_other : (xs : List X) (places : List ℕ) (list : List X) (j : ℕ) → (Has places j → ⊥) → slice_get (written xs places list) j ≡ slice_get xs j
  written_other xs [] list j ne = refl
  written_other xs (k ∷ places) [] j ne = refl
  written_other xs (k ∷ places) (o ∷ list) j ne =
      written_other (slice_set xs k o) places list j (λ h. ne (later h)) ∙ set_other xs k j o (λ e. ne (subst (λ i. Has (k ∷ places) i) (sym e) first))

-- each of the places with its item
abbrev pub AllAt : (ℕ → Outcome → Type 0) → List ℕ → List Outcome → Type 0
AllAt P [] [] = Unit {0}
AllAt P [] (o ∷ list) = ⊥
AllAt P (k ∷ places) [] = ⊥
AllAt P (k ∷ places) (o ∷ list) = P k o × AllAt P places list

-- the places rise, from s on
abbrev pub AreRising : ℕ → List ℕ → Type 0
AreRising s [] = Unit {0}
AreRising s (k ∷ places) = (s ≤ k) × AreRising (suc k) places

pub rising_from : (s : ℕ) (places : List ℕ) (k : ℕ) → AreRising s places → Has places k → s ≤ k
rising_from s [] k up h = elim h [ ]
rising_from s (j ∷ places) k up first = up.0
rising_from s (j ∷ places) k up (later h) = (let l : suc j ≤ k = rising_from (suc j) places k up.1 h in let m : s ≤ j = up.0 in omega (arith, l, m))

-- each of the places has its item
pub written_at : (outs : List Outcome) (s : ℕ) (places : List ℕ) (list : List Outcome) → AreRising s places → ((k : ℕ) → Has places k → k < length outs)
    → length list ≡ length places → map (outcome_at (written outs places list)) places ≡ list
written_at outs s [] [] up within many = refl
written_at outs s [] (o ∷ list) up within many = absurd cc
written_at outs s (k ∷ places) [] up within many = absurd cc
written_at outs s (k ∷ places) (o ∷ list) up within many =
    ap₂ (λ (x : Outcome) (l : List Outcome). x ∷ l)
    (ap outcome_in (written_other (slice_set outs k o) places list k past ∙ set_same outs k o (within k first)))
    (written_at (slice_set outs k o) (suc k) places list up.1 (λ j h. subst (λ n. j < n) (sym (set_length outs k o)) (within j (later h))) few)
  where
    past : Has places k → ⊥
    past h = (let l : suc k ≤ k = rising_from (suc k) places k up.1 h in omega (arith, l))

    few : length list ≡ length places
    few = omega (arith, many)

-- what is written at a place is one of the items, and meets what the item at the place meets
pub written_each : (P : ℕ → Outcome → Type 0) (outs : List Outcome) (s : ℕ) (places : List ℕ) (list : List Outcome) → AreRising s places
    → ((k : ℕ) → Has places k → k < length outs) → AllAt P places list → (k : ℕ) (o : Outcome) → Has places k → slice_get (written outs places list) k ≡ Some o → P k o
written_each P outs s [] list up within all k o h e = elim h [ ]
written_each P outs s (j ∷ places) [] up within all k o h e = absurd all
written_each P outs s (j ∷ places) (x ∷ list) up within all k o first e =
    let is : slice_get (written (slice_set outs j x) places list) j ≡ Some x = written_other (slice_set outs j x) places list j
    (λ h. (let l : suc j ≤ j = rising_from (suc j) places j up.1 h in omega (arith, l))) ∙ set_same outs j x (within j first) in
    let same : x ≡ o = ap (λ p. unwrap_or p x) (sym is ∙ e) in
    subst (λ y. P j y) same all.0
written_each P outs s (j ∷ places) (x ∷ list) up within all k o (later h) e =
    written_each P (slice_set outs j x) (suc j) places list up.1 (λ i m. subst (λ n. i < n) (sym (set_length outs j x)) (within i (later m))) all.1 k o h e

set_outs : (xs : List (Option (EntryId × Paths))) (k : ℕ) (x : Option (EntryId × Paths)) → outs_of (slice_set xs k x) ≡ slice_set (outs_of xs) k (outcome_of x)
set_outs [] k x = refl
set_outs (y ∷ xs) zero x = refl
set_outs (y ∷ xs) (suc k) x = ap (λ l. outcome_of y ∷ l) (set_outs xs k x)

-- outcomes that are written, seen by masks
pub written_outs : (xs : List (Option (EntryId × Paths))) (places : List ℕ) (list : List (Option (EntryId × Paths))) → outs_of (written xs places list) ≡ written (outs_of xs) places (outs_of list)
written_outs xs [] list = refl
written_outs xs (k ∷ places) [] = refl
written_outs xs (k ∷ places) (o ∷ list) = written_outs (slice_set xs k o) places list ∙ ap (λ l. written l places (outs_of list)) (set_outs xs k o)

-- ---- one after another

-- the empty list of a type
abbrev nothing : {A : Type 0} → List A
nothing = []

take_nothing : {A : Type 0} (n : ℕ) → take n (nothing {A = A}) ≡ []
take_nothing zero = refl
take_nothing (suc n) = refl

take_all : {A : Type 0} (n : ℕ) (xs : List A) → n ≡ length xs → take n xs ≡ xs
take_all n [] e = take_nothing n
take_all zero (x ∷ xs) e = absurd (omega (arith, e))
take_all (suc n) (x ∷ xs) e = ap (λ l. x ∷ l) (take_all n xs (omega (arith, e)))

take_length : {A : Type 0} (n : ℕ) (xs : List A) → n ≤ length xs → length (take n xs) ≡ n
take_length zero xs l = refl
take_length (suc n) [] l = absurd (omega (arith, l))
take_length (suc n) (x ∷ xs) l = ap suc (take_length n xs (omega (arith, l)))

module _ {X : Type 0} where
  -- one item more is written
  written_more : (xs : List X) (places : List ℕ) (list : List X) (k : ℕ) (x : X) → length list ≡ length places → written xs (places ++ k ∷ []) (list ++ x ∷ []) ≡ slice_set (written xs places list) k x
  written_more xs [] [] k x many = refl
  written_more xs [] (o ∷ list) k x many = absurd cc
  written_more xs (j ∷ places) [] k x many = absurd cc
  written_more xs (j ∷ places) (o ∷ list) k x many = written_more (slice_set xs j o) places list k x (omega (arith, many))

  -- what is left of the list that is written
  pub some_left : (done rest all : List X) (x : X) (more : List X) → rest ≡ x ∷ more → done ++ rest ≡ all → length done < length all
  some_left done rest all x more is whole =
      let n : length done + length rest ≡ length all = sym (length-append done rest) ∙ ap length whole in
      let m : length rest ≡ suc (length more) = ap length is in
      omega (arith, n, m)

  pub yields_more : (done rest all : List X) (x : X) (more : List X) → rest ≡ x ∷ more → done ++ rest ≡ all → (done ++ x ∷ []) ++ more ≡ all
  yields_more done rest all x more is whole = append_assoc done (x ∷ []) more ∙ ap (λ l. done ++ l) (sym is) ∙ whole

  -- a step of the writing
  pub one_written : (xs now : List X) (places : List ℕ) (n : ℕ) (list : List X) (x : X) → n < length places → n ≡ length list → now ≡ written xs (take n places) list
      → slice_set now (get_or places n 0) x ≡ written xs (take (n + 1) places) (list ++ x ∷ [])
  one_written xs now places n list x l many is =
      ap (λ ys. slice_set ys (get_or places n 0) x) is ∙ sym (written_more xs (take n places) list (get_or places n 0) x (sym many ∙ sym (take_length n places (omega (arith, l)))))
      ∙ ap (λ ps. written xs ps (list ++ x ∷ [])) (sym (take_more places n 0 l))

  -- a place that is read is within
  pub place_within : (xs now : List X) (places ps : List ℕ) (n : ℕ) (list : List X) → ((k : ℕ) → Has places k → k < length xs) → n < length places
      → now ≡ written xs ps list → get_or places n 0 < length now
  place_within xs now places ps n list within l is =
      subst (λ m. get_or places n 0 < m) (sym (ap length is ∙ written_length xs ps list)) (within (get_or places n 0) (has_at places n (get_or places n 0) (slice_get-get_or places n 0 l)))

  -- all is written
  pub all_written : (xs now : List X) (places : List ℕ) (n : ℕ) (list all : List X) → length all ≡ length places → n ≡ length list → list ≡ all
      → now ≡ written xs (take n places) list → now ≡ written xs places all
  all_written xs now places n list all many e same is =
      is ∙ ap (λ ps. written xs ps list) (take_all n places (e ∙ ap length same ∙ many)) ∙ ap (λ l. written xs places l) same

  -- what is written through a slice of the whole list
  pub whole_back : (new items : List X) → length new ≡ length items → take (length items) (new ++ drop (length new) items) ≡ new
  whole_back [] [] e = refl
  whole_back [] (y ∷ ys) e = absurd cc
  whole_back (x ∷ xs) [] e = absurd cc
  whole_back (x ∷ xs) (y ∷ ys) e = ap (λ l. x ∷ l) (whole_back xs ys (omega (arith, e)))
