-- The instances of an entry's unfolding, numbered: the top first, and those of one instance side by side and after it.
use Rattle.std.specs.Prelude.{◌≡◌, ℕ, ◌+◌, ◌<◌, ◌≤◌, List, [], ◌∷◌, length, slice_get, Option, Some, None}
use Rattle.hc_canon.specs.declared.form.EntryId.{EntryId}
use Rattle.hc_canon.specs.FormView.{FormView}

-- of each instance its entry, and the number of its first own instance
pub record Layout : Type 0 where
  pub entries : List EntryId
  pub first : List ℕ

-- the entries of the own instances of an entry
abbrev pub kids_in : Option FormView → List EntryId
kids_in None = []
kids_in (Some form) = form.kids

abbrev pub kids_of : List FormView → EntryId → List EntryId
kids_of forms id = kids_in (slice_get forms id.0)

-- the number of own instance i of an instance with this entry and first own instance, none where it has no such instance
abbrev pub own_number : Option EntryId → ℕ → ℕ → Option ℕ
own_number None first i = None
own_number (Some kid) first i = Some (first + i)

abbrev pub own_place : List FormView → Option EntryId → Option ℕ → ℕ → Option ℕ
own_place forms None begin i = None
own_place forms (Some id) None i = None
own_place forms (Some id) (Some begin) i = own_number (slice_get (kids_of forms id) i) begin i

abbrev pub kid_place : List FormView → Layout → Option ℕ → ℕ → Option ℕ
kid_place forms l None i = None
kid_place forms l (Some p) i = own_place forms (slice_get l.entries p) (slice_get l.first p) i

-- The number of the instance at a path, none where there is no such instance.
abbrev pub place : List FormView → Layout → List ℕ → Option ℕ
place forms l [] = Some 0
place forms l (i ∷ path) = kid_place forms l (place forms l path) i

-- The instances that are numbered so far; only those that stand first have their own instances numbered.
pub record IsLaid (forms : List FormView) (top : EntryId) (l : Layout) : Type 0 where
  pub root : slice_get l.entries 0 ≡ Some top
  pub few : length l.first ≤ length l.entries
  pub known : (p : ℕ) (id : EntryId) → slice_get l.entries p ≡ Some id → id.0 < length forms
  pub own : (p i begin : ℕ) (id kid : EntryId) → slice_get l.entries p ≡ Some id → slice_get l.first p ≡ Some begin → slice_get (kids_of forms id) i ≡ Some kid
      → slice_get l.entries (begin + i) ≡ Some kid
  pub behind : (p begin : ℕ) → slice_get l.first p ≡ Some begin → p < begin
  pub within : (p begin : ℕ) (id : EntryId) → slice_get l.entries p ≡ Some id → slice_get l.first p ≡ Some begin → begin + length (kids_of forms id) ≤ length l.entries
  pub apart : (p q begin next : ℕ) (id : EntryId) → slice_get l.entries p ≡ Some id → slice_get l.first p ≡ Some begin → slice_get l.first q ≡ Some next → p < q
      → begin + length (kids_of forms id) ≤ next
  pub others : (q : ℕ) → 0 < q → q < length l.entries → (p : ℕ) × (i : ℕ) × (kid_place forms l (Some p) i ≡ Some q)

-- The own instances of each begin right behind those of the one before.
pub record IsDense (forms : List FormView) (l : Layout) : Type 0 where
  pub alone : length l.first ≡ 0 → length l.entries ≡ 1
  pub start : (begin : ℕ) → slice_get l.first 0 ≡ Some begin → begin ≡ 1
  pub next : (p begin following : ℕ) (id : EntryId) → slice_get l.entries p ≡ Some id → slice_get l.first p ≡ Some begin → slice_get l.first (p + 1) ≡ Some following
      → following ≡ begin + length (kids_of forms id)
  pub full : (p begin : ℕ) (id : EntryId) → slice_get l.entries p ≡ Some id → slice_get l.first p ≡ Some begin → length l.first ≡ p + 1 → length l.entries ≡ begin + length (kids_of forms id)

-- All instances of the unfolding are numbered.
pub record IsLayout (forms : List FormView) (top : EntryId) (l : Layout) : Type 0 where
  pub laid : IsLaid forms top l
  pub dense : IsDense forms l
  pub whole : length l.first ≡ length l.entries
