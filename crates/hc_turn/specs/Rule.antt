-- The lock invariant: what is true of the states in a lock's queue and of what its passes know, between any two steps.
use Rattle.std.specs.Prelude.{◌≡◌, ◌⊎◌, ℕ, ◌<◌, IsTrue, List, length, All, flat_map, IsPermutation}
use Rattle.std.specs.List.{sum_by, count_by}
use mathlib.Core.List.{IsPrefix}
use Rattle.hc_turn.specs.declared.view.View.{View}
use Rattle.hc_turn.specs.Views.{ArePrefixesOf, places_of, after_enter, spent}

module _ {I : Type 0} where
  -- how many passes hold the turn
  abbrev pub holders : List (View I) → ℕ
  holders views = count_by (λ v. v.holds) views

  -- the queue has one state and no pass holds the turn, or it is empty and exactly one pass holds the turn
  abbrev pub HasOneTurn : {S : Type 0} → List S → List (View I) → Type 0
  HasOneTurn states views = ((length states ≡ 1) × (holders views ≡ 0)) ⊎ ((length states ≡ 0) × (holders views ≡ 1))

  -- What a pass knows is so of the log: what it has seen and the lists that it keeps are prefixes, and all of the log
  -- is seen by a holder of the turn. A pass has a share, unless it is spent.
  pub record IsViewOf (log : List I) (v : View I) : Type 0 where
    pub seen : IsPrefix v.seen log
    pub kept : ArePrefixesOf log v.kept
    pub holder : IsTrue v.holds → v.seen ≡ log
    pub share : (0 < v.share) ⊎ (v ≡ spent)

  -- There is one turn. There is one log: that of the state in the queue, or what the holder has seen. The places of
  -- all passes together are the places of the log, each once. The shares of all passes are 64.
  pub record LockInvariant {S : Type 0} (log_of : S → List I) (states : List S) (views : List (View I)) : Type 0 where
    pub turn : HasOneTurn states views
    pub log : List I
    pub state : All (λ s. log_of s ≡ log) states
    pub known : All (IsViewOf log) views
    pub places : IsPermutation (places_of log) (flat_map (λ v. v.mine) views)
    pub shares : sum_by (λ v. v.share) views ≡ 64

  -- The turn was taken, with a state of this log. What the pass had seen and kept are prefixes of the log. With all
  -- shares, its places are the places of the log, each once.
  pub record Enters (v : View I) (log : List I) (w : View I) : Type 0 where
    pub view : w ≡ after_enter v log
    pub seen : IsPrefix v.seen log
    pub kept : ArePrefixesOf log v.kept
    pub all : v.share ≡ 64 → IsPermutation (places_of log) v.mine
