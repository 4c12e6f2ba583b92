-- Why an input was not read to its end.
use Rattle.std.specs.Prelude.{ℕ, ◌<◌, ◌≤◌, List, length, ⊤}
use Rattle.hc_outside.specs.declared.all.ReadStop.{ReadStop}
use Rattle.hc_outside.specs.declared.all.ReadStop.TheVariants.{Fault, TooLong, NoMemory}

-- the bytes given so far, where reading stops for this reason: more than the limit are too long, and nothing else is
abbrev pub StopsAfter : ReadStop → ℕ → List ℕ → Type 0
StopsAfter Fault limit given = length given ≤ limit
StopsAfter TooLong limit given = limit < length given
StopsAfter NoMemory limit given = ⊤
