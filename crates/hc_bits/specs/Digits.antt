-- Printed numbers and lines.
use Rattle.std.specs.Prelude.{ℕ, zero, suc, ◌+◌, ◌/◌, ◌%◌, List, [], ◌∷◌, ◌++◌, if◌then◌else◌, nat_lt, flat_map}

-- a lower-case hexadecimal digit
abbrev pub digit : ℕ → ℕ
digit d = if nat_lt d 10 then (48 + d) else (87 + d)

-- the n lowest hexadecimal digits, the highest first
abbrev pub hex : ℕ → ℕ → List ℕ
hex zero v = []
hex (suc n) v = hex n (v / 16) ++ digit (v % 16) ∷ []

-- a number of w bits, in as many digits as the width needs
abbrev pub hex_of : ℕ → ℕ → List ℕ
hex_of w v = hex ((w + 3) / 4) v

-- the lines, each ended by a line feed
abbrev pub lines_text : List (List ℕ) → List ℕ
lines_text lines = flat_map (λ line. line ++ 10 ∷ []) lines
