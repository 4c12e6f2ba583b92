-- A table of the names given so far, each with a number that is no free one's.
use Rattle.std.specs.Prelude.{ℕ, ◌<◌, List}
use Rattle.std.specs.Map.{keys_of}
use Rattle.hc_signal.specs.Member.{Has}
use Rattle.hc_names.specs.Mangling.{numbered}

-- The names with the numbers below this one were given.
abbrev pub AreGivenBelow : List (List ℕ) → List ℕ → ℕ → Type 0
AreGivenBelow given name number = (j : ℕ) → j < number → Has given (numbered name j)

-- each number in the table is right
abbrev pub AreNumbered : List (List ℕ × ℕ) → Type 0
AreNumbered entries = (name : List ℕ) (number : ℕ) → Has entries (name, number) → AreGivenBelow (keys_of entries) name number
