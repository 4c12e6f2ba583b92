-- Waking: one part after another, up to one that is marked.
use Rattle.std.proofs.Common.{◌≡◌, ◌≢◌, ℕ, zero, suc, ◌+◌, ◌*◌, ◌<◌, ◌≤◌, Bool, true, false, ◌⊎◌, inl, inr, List, [], ◌∷◌, length, take, slice_set, refl, sym, ap, subst, ◌∙◌, arith}
use Rattle.std.specs.Prelude.{slice_get, slice_index_or, Option, Some}
use Rattle.std.proofs.lemmas.Bool.Decides.{eqb_tells}
use Rattle.hc_rows.specs.Rows.{row_at, flat, number_of}
use Rattle.hc_signal.specs.Member.{Has, first, later}
use Rattle.hc_store.specs.Marks.{IsOn, AreUp, AreClosed, AreMoreMarked}
use Rattle.hc_store.proofs.FlatRows.{same_numbers, same_size}

pub equal_or_not : (a b : ℕ) → (a ≡ b) ⊎ (a ≢ b)
equal_or_not a b = elim (eqb_tells a b) [ inl e ↦ inl e.1 | inr n ↦ inr n.1 ]

pub get_at : {X : Type 0} (xs : List X) (k : ℕ) (d : X) → k < length xs → slice_get xs k ≡ Some (slice_index_or xs k d)
get_at [] k d h = absurd (omega (arith, h))
get_at (x ∷ xs) zero d h = refl
get_at (x ∷ xs) (suc k) d h = get_at xs k d (omega (arith, h))

pub set_here : {X : Type 0} (xs : List X) (k : ℕ) (x : X) → k < length xs → slice_get (slice_set xs k x) k ≡ Some x
set_here [] k x h = absurd (omega (arith, h))
set_here (y ∷ xs) zero x h = refl
set_here (y ∷ xs) (suc k) x h = set_here xs k x (omega (arith, h))

pub set_other : {X : Type 0} (xs : List X) (k j : ℕ) (x : X) → k ≢ j → slice_get (slice_set xs k x) j ≡ slice_get xs j
set_other [] k j x n = refl
set_other (y ∷ xs) zero zero x n = absurd (n refl)
set_other (y ∷ xs) zero (suc j) x n = refl
set_other (y ∷ xs) (suc k) zero x n = refl
set_other (y ∷ xs) (suc k) (suc j) x n = set_other xs k j x (λ e. n (ap suc e))

pub set_length : {X : Type 0} (xs : List X) (k : ℕ) (x : X) → length (slice_set xs k x) ≡ length xs
set_length [] k x = refl
set_length (y ∷ xs) zero x = refl
set_length (y ∷ xs) (suc k) x = ap suc (set_length xs k x)

on_set : (marks : List Bool) (at k : ℕ) → IsOn marks k → IsOn (slice_set marks at true) k
on_set [] at k h = h
on_set (m ∷ marks) zero zero h = refl
on_set (m ∷ marks) zero (suc k) h = h
on_set (m ∷ marks) (suc at) zero h = h
on_set (m ∷ marks) (suc at) (suc k) h = on_set marks at k h

-- one for a part that is not marked
abbrev pub off : Bool → ℕ
off true = 0
off false = 1

abbrev pub left_of : List Bool → ℕ → ℕ
left_of marks at = 2 * at + off (slice_index_or marks at false)

pub record IsWaking (up : List ℕ) (start now : List Bool) (part at : ℕ) : Type 0 where
  pub many : length up ≡ length now
  pub inside : at < length up
  pub grown : (k : ℕ) → IsOn start k → IsOn now k
  pub there : (at ≡ part) ⊎ IsOn now part
  pub closed : AreClosed up start → (k u : ℕ) → slice_get up k ≡ Some u → IsOn now k → IsOn now u ⊎ (u ≡ at)

pub waking_starts : (up : List ℕ) (marks : List Bool) (part : ℕ) → length up ≡ length marks → part < length marks → IsWaking up marks marks part part
waking_starts up marks part many lt = record {
  many = many;
  inside = omega (arith, many, lt);
  grown = λ k h. h;
  there = inl refl;
  closed = λ c k u e h. inl (c k u e h);
}

module _ (up : List ℕ) (start now : List Bool) (part at : ℕ) (is : AreUp up) (w : IsWaking up start now part at) where
  next : ℕ
  next = slice_index_or up at 0

  after : List Bool
  after = slice_set now at true

  next_is : slice_get up at ≡ Some (slice_index_or up at 0)
  next_is = get_at up at 0 w.inside

  here : IsOn (slice_set now at true) at
  here = let m = w.many in let i = w.inside in set_here now at true (omega (arith, m, i))

  next_low : slice_index_or up at 0 ≤ at
  next_low = is at (slice_index_or up at 0) next_is

  one_some : (a b : ℕ) → ◌≡◌ {A = Option ℕ} (Some a) (Some b) → a ≡ b
  one_some a b e = cc

  by_place : AreClosed up start → (k u : ℕ) → slice_get up k ≡ Some u → IsOn (slice_set now at true) k → (at ≡ k) ⊎ (at ≢ k) → IsOn (slice_set now at true) u ⊎ (u ≡ slice_index_or up at 0)
  by_place c k u e h (inl same) = inr (one_some u (slice_index_or up at 0) (sym e ∙ ap (slice_get up) (sym same) ∙ next_is))
  by_place c k u e h (inr other) = elim (w.closed c k u e (sym (set_other now at k true other) ∙ h)) [
    | inl on ↦ inl (on_set now at u on)
    | inr same ↦ inl (subst (IsOn (slice_set now at true)) (sym same) here)
  ]

  pub waking_steps : IsWaking up start (slice_set now at true) part (slice_index_or up at 0)
  waking_steps = record {
    many = w.many ∙ sym (set_length now at true);
    inside = let l = next_low in let i = w.inside in omega (arith, l, i);
    grown = λ k h. on_set now at k (w.grown k h);
    there = inr (elim w.there [ inl same ↦ subst (IsOn (slice_set now at true)) same here | inr on ↦ on_set now at part on ]);
    closed = λ c k u e h. by_place c k u e h (equal_or_not at k);
  }

  off_at_most : (b : Bool) → off b ≤ 1
  off_at_most true = omega arith
  off_at_most false = omega arith

  some_index : (marks : List Bool) (k : ℕ) → IsOn marks k → slice_index_or marks k false ≡ true
  some_index [] k h = absurd cc
  some_index (m ∷ marks) zero h = cc
  some_index (m ∷ marks) (suc k) h = some_index marks k h

  smaller_by : slice_index_or now at false ≡ false → (slice_index_or up at 0 ≡ at) ⊎ (slice_index_or up at 0 ≢ at) → left_of (slice_set now at true) (slice_index_or up at 0) < left_of now at
  smaller_by f (inl same) =
      let a : off (slice_index_or (slice_set now at true) (slice_index_or up at 0) false) ≡ 0 = ap (λ (k : ℕ). off (slice_index_or (slice_set now at true) k false)) same
      ∙ ap off (some_index (slice_set now at true) at here) in
      let b : off (slice_index_or now at false) ≡ 1 = ap off f in
      omega (arith, a, b, same)
  smaller_by f (inr other) =
      let a = off_at_most (slice_index_or (slice_set now at true) (slice_index_or up at 0) false) in
      let b : off (slice_index_or now at false) ≡ 1 = ap off f in
      let l = next_low in
      omega (arith, a, b, l, other)

  pub waking_smaller : slice_index_or now at false ≡ false → left_of (slice_set now at true) (slice_index_or up at 0) < left_of now at
  waking_smaller f = smaller_by f (equal_or_not (slice_index_or up at 0) at)

  on_at : slice_index_or now at false ≡ true → IsOn now at
  on_at t = let m = w.many in let i = w.inside in get_at now at false (omega (arith, m, i)) ∙ ap (λ (b : Bool). Some b) t

  pub waking_ends_on : slice_index_or now at false ≡ true → IsOn now part
  waking_ends_on t = elim w.there [ inl same ↦ subst (IsOn now) same (on_at t) | inr on ↦ on ]

  pub waking_ends_closed : slice_index_or now at false ≡ true → AreClosed up start → AreClosed up now
  waking_ends_closed t c k u e h = elim (w.closed c k u e h) [ inl on ↦ on | inr same ↦ subst (IsOn now) (sym same) (on_at t) ]

-- ---- some parts

pub woken_none : (up : List (List ℕ)) (p : ℕ) (marks : List (List Bool)) → AreMoreMarked up p [] marks marks
woken_none up p marks = record { shape = refl; grown = λ k h. h; there = λ k h l. elim h [ ]; closed = λ c. c }

take_suc : (xs : List ℕ) (k y : ℕ) → k < length xs → Has (take (suc k) xs) y → Has (take k xs) y ⊎ (y ≡ slice_index_or xs k 0)
take_suc [] k y l h = absurd (omega (arith, l))
take_suc (x ∷ xs) zero _ l first = inr refl
take_suc (x ∷ xs) zero y l (later h) = elim h [ ]
take_suc (x ∷ xs) (suc k) _ l first = inl first
take_suc (x ∷ xs) (suc k) y l (later h) = elim (take_suc xs k y (omega (arith, l)) h) [ inl c ↦ inl (later c) | inr e ↦ inr e ]

pub take_more : (xs : List ℕ) (k y : ℕ) → k < length xs → Has (take (k + 1) xs) y → Has (take k xs) y ⊎ (y ≡ slice_index_or xs k 0)
take_more xs k y l h = let e : k + 1 ≡ suc k = omega arith in take_suc xs k y l (subst (λ (n : ℕ). Has (take n xs) y) e h)

module _ (up : List (List ℕ)) (p : ℕ) (parts : List ℕ) (k : ℕ) (old mid new : List (List Bool)) (inside : k < length parts) (a : AreMoreMarked up p (take k parts) old mid)
    (b : AreMoreMarked up p (slice_index_or parts k 0 ∷ []) mid new) where
  there_then : (j : ℕ) → Has (take (k + 1) parts) j → j < length (row_at old p) → IsOn (flat new) (number_of old p j)
  there_then j h l = elim (take_more parts k j inside h) [
    | inl before ↦ b.grown (number_of old p j) (a.there j before l)
    | inr same ↦
        let n : number_of mid p j ≡ number_of old p j = same_numbers mid old p j a.shape in
        let s : length (row_at mid p) ≡ length (row_at old p) = same_size mid old p a.shape in
        let here : Has (slice_index_or parts k 0 ∷ []) j = subst (λ (i : ℕ). Has (slice_index_or parts k 0 ∷ []) i) (sym same) first in
        subst (IsOn (flat new)) n (b.there j here (omega (arith, s, l)))
  ]

  pub woken_then : AreMoreMarked up p (take (k + 1) parts) old new
  woken_then = record {
    shape = b.shape ∙ a.shape;
    grown = λ j h. b.grown j (a.grown j h);
    there = there_then;
    closed = λ c. b.closed (a.closed c);
  }
