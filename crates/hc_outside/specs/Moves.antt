-- What a read takes from a source and a write gives to a sink, where these tell their bytes.
use Rattle.std.specs.Prelude.{ℕ, ◌≡◌, ◌<◌, ◌≤◌, List, ◌++◌, length, take, Option, Some, None, Result, MatchResult, ⊤}
use Rattle.std.specs.Io.KnownBytes.{Consumes, Appends, Keeps, IsAtEnd}

-- `Ok(n)` took the n bytes that stand at the front of the buffer, and 0 comes exactly at the end; `Err` took none.
abbrev pub Reads : {E : Type 0} → Option (List ℕ) → Option (List ℕ) → Result ℕ E → List ℕ → Type 0
Reads old new result buf =
    MatchResult result (λ n. (n ≤ length buf) × Consumes old new (take n buf) × (n ≡ 0 → IsAtEnd new)) (λ _. Keeps old new)

-- `Ok(n)` took the first n bytes of the piece, at least one; `Err` took none.
abbrev pub Writes : {E : Type 0} → Option (List ℕ) → Option (List ℕ) → Result ℕ E → List ℕ → Type 0
Writes old new result piece =
    MatchResult result (λ n. (0 < n) × (n ≤ length piece) × Appends old new (take n piece)) (λ _. Keeps old new)

-- the told bytes are these
abbrev pub Holds : Option (List ℕ) → List ℕ → Type 0
Holds None bytes = ⊤
Holds (Some told) bytes = told ≡ bytes

-- more than n bytes were told
abbrev pub LongerThan : Option (List ℕ) → ℕ → Type 0
LongerThan None n = ⊤
LongerThan (Some told) n = n < length told

-- bytes of which P holds were given, and are gone from the front of what was told
abbrev pub Gives : Option (List ℕ) → Option (List ℕ) → (List ℕ → Type 0) → Type 0
Gives old new P = (given : List ℕ) × Consumes old new given × P given

-- the told bytes grew by the front of these that ends where the rest begins
abbrev pub AppendsUpTo : Option (List ℕ) → Option (List ℕ) → List ℕ → List ℕ → Type 0
AppendsUpTo old new bytes rest = (front : List ℕ) × (bytes ≡ front ++ rest) × Appends old new front

-- the told bytes grew by a front of these
abbrev pub AppendsFront : Option (List ℕ) → Option (List ℕ) → List ℕ → Type 0
AppendsFront old new bytes = (rest : List ℕ) × AppendsUpTo old new bytes rest
