-- Of each part of each instance the number of the part that runs it, among the parts of all instances.
use Rattle.std.specs.Prelude.{◌≡◌, ℕ, ◌+◌, ◌<◌, ◌≤◌, List, map, length, slice_get, if◌then◌else◌, nat_lt, Option, Some, None}
use Rattle.std.specs.List.{range_with_len}
use Rattle.hc_canon.specs.declared.form.EntryId.{EntryId}
use Rattle.hc_canon.specs.FormView.{FormView}
use Rattle.hc_rows.specs.Rows.{row_at, flat, number_of}
use Rattle.hc_steps.specs.Plan.{Part}
use Rattle.hc_steps.specs.Compiled.{PlanView, parts_in}
use Rattle.hc_steps.specs.Views.{ran_at}
use Rattle.hc_layout.specs.Layout.{Layout, kid_place}

abbrev pub parts_of : List PlanView → EntryId → List Part
parts_of plans id = parts_in (slice_get plans id.0)

-- the part that runs part b of instance i, by a plan
abbrev pub ran_in : Option PlanView → ℕ → ℕ → ℕ
ran_in None i b = 4294967295
ran_in (Some plan) i b = ran_at plan.first_part plan.ran i b

-- The number of part j of instance p where it has such a part; else a part's own number, since no part runs it.
abbrev pub runner : List (List ℕ) → ℕ → ℕ → ℕ → ℕ
runner up p j own = if nat_lt j (length (row_at up p)) then number_of up p j else own

-- the row, behind all others, of own instance i of instance p
abbrev pub runners_of : List PlanView → List (List ℕ) → ℕ → EntryId → ℕ → EntryId → List ℕ
runners_of plans up p id i kid = map (λ b. runner up p (ran_in (slice_get plans id.0) i b) (length (flat up) + b)) (range_with_len 0 (length (parts_of plans kid)))

-- The rows so far: one for each instance, with a number for each of its parts. A part of the top has its own number.
pub record AreRunners (forms : List FormView) (plans : List PlanView) (l : Layout) (up : List (List ℕ)) : Type 0 where
  pub few : length up ≤ length l.entries
  pub parts : (q : ℕ) (id : EntryId) → q < length up → slice_get l.entries q ≡ Some id → length (row_at up q) ≡ length (parts_of plans id)
  pub top : (b : ℕ) → b < length (row_at up 0) → slice_get (row_at up 0) b ≡ Some b
  pub runners : (p i q b : ℕ) (id : EntryId) → q < length up → slice_get l.entries p ≡ Some id → kid_place forms l (Some p) i ≡ Some q → b < length (row_at up q)
      → slice_get (row_at up q) b ≡ Some (runner up p (ran_in (slice_get plans id.0) i b) (number_of up q b))
  pub lower : (k u : ℕ) → slice_get (flat up) k ≡ Some u → u ≤ k

pub record IsUp (forms : List FormView) (plans : List PlanView) (l : Layout) (up : List (List ℕ)) : Type 0 where
  pub runners : AreRunners forms plans l up
  pub whole : length up ≡ length l.entries
