-- Mangled names: names that are kept apart by numbers at their ends.
use Rattle.std.specs.Prelude.{◌≡◌, ℕ, ◌<◌, ◌⊎◌, List, ◌∷◌, ◌++◌, decimal}
use Rattle.hc_signal.specs.Member.{Has}

-- the name, `_` and the number
abbrev pub numbered : List ℕ → ℕ → List ℕ
numbered name k = name ++ 95 ∷ decimal k

-- The name itself if it is free, else the first of `name_0`, `name_1` and so on that is.
abbrev pub IsMangled : List ℕ → List (List ℕ) → List ℕ → Type 0
IsMangled name used result =
    (¬ Has used name × (result ≡ name))
    ⊎ (Has used name × ((k : ℕ) × (result ≡ numbered name k) × ¬ Has used result × ((j : ℕ) → j < k → Has used (numbered name j))))
