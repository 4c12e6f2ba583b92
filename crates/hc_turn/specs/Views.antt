-- What a pass knows, and what each step makes of it.
use Rattle.std.specs.Prelude.{◌≡◌, ◌⊎◌, ℕ, ◌+◌, ◌-◌, ◌/◌, nat_lt, if◌then◌else◌, true, false, List, [], ◌∷◌, ◌++◌, length, All}
use Rattle.std.specs.List.{range_with_len}
use mathlib.Core.List.{IsPrefix}
use Rattle.hc_turn.specs.declared.view.View.{View}

module _ {I : Type 0} where
  -- each of the lists is a prefix of the log
  abbrev pub ArePrefixesOf : List I → List (List I) → Type 0
  ArePrefixesOf log lists = All (λ list. IsPrefix list log) lists

  -- what the pass has seen and the lists that it keeps are prefixes of one log
  abbrev pub KnowsOneLog : View I → Type 0
  KnowsOneLog v = (log : List I) × IsPrefix v.seen log × ArePrefixesOf log v.kept

  -- the second list is the first, or the first and one item more
  abbrev pub AddsAtMostOne : List I → List I → Type 0
  AddsAtMostOne old new = (new ≡ old) ⊎ ((item : I) × (new ≡ old ++ item ∷ []))

  -- the places of a log, from 0 on
  abbrev pub places_of : List I → List ℕ
  places_of log = range_with_len 0 (length log)

  -- the longer of two lists, and the first where they are equally long
  abbrev pub longer : List I → List I → List I
  longer xs ys = if nat_lt (length xs) (length ys) then ys else xs

  -- the first pass, while its lock has no state yet: it holds the turn, and all 64 shares are its own
  abbrev pub maker : View I
  maker = record { seen = []; mine = []; share = 64; kept = []; holds = true }

  -- the first pass of a lock with a state of this log: it has seen the whole log, and each place is its own
  abbrev pub whole : List I → View I
  whole log = record { seen = log; mine = places_of log; share = 64; kept = []; holds = false }

  -- it took the turn, with a state of this log
  abbrev pub after_enter : View I → List I → View I
  after_enter v log = record v { seen = log; kept = []; holds = true }

  -- it gave the turn back, with a state of this log, whose places past those that were seen are its own
  abbrev pub after_leave : View I → List I → View I
  after_leave v log = record v { seen = log; mine = v.mine ++ range_with_len (length v.seen) (length log - length v.seen); holds = false }

  -- it gave the turn back, with nothing new in the log
  abbrev pub left_as_it_was : View I → View I
  left_as_it_was v = record v { holds = false }

  -- it gave the turn back, with one item more, whose place is its own
  abbrev pub left_with : View I → I → View I
  left_with v item = record v { seen = v.seen ++ item ∷ []; mine = v.mine ++ length v.seen ∷ []; holds = false }

  -- the first of two halves keeps the places, and half the share, rounded up
  abbrev pub first_half : View I → View I
  first_half v = record v { share = (v.share + 1) / 2 }

  -- the second has no place yet, and half the share, rounded down
  abbrev pub second_half : View I → View I
  second_half v = record v { mine = []; share = v.share / 2 }

  -- one pass in place of two
  abbrev pub joined : View I → View I → View I
  joined v w = record { seen = longer v.seen w.seen; mine = v.mine ++ w.mine; share = v.share + w.share; kept = v.seen ∷ w.seen ∷ (v.kept ++ w.kept); holds = false }

  -- a pass that was joined into another
  abbrev pub spent : View I
  spent = record { seen = []; mine = []; share = 0; kept = []; holds = false }
