-- Rows of items: the rows of one flat list, and what a change makes of them.
use Rattle.std.specs.Prelude.{◌≡◌, ℕ, ◌+◌, ◌≤◌, List, [], ◌∷◌, ◌++◌, length, take, slice_range, slice_index_or}
use Rattle.std.specs.List.{flat_map}

-- A list of n items cut into rows: each begins at its start, and ends where the next one begins.
abbrev pub rows_of : {X : Type 0} → List X → List ℕ → ℕ → List (List X)
rows_of items [] n = []
rows_of items (start ∷ starts) n = slice_range items start (slice_index_or starts 0 n) ∷ rows_of items starts n

-- the starts stand in order, from this number up to that
abbrev pub AreOrdered : ℕ → List ℕ → ℕ → Type 0
AreOrdered low [] n = low ≤ n
AreOrdered low (start ∷ starts) n = low ≤ start × AreOrdered start starts n

-- The starts of the rows of so many items: the first row begins at the first item, and without rows there are no items.
pub record AreStarts (starts : List ℕ) (n : ℕ) : Type 0 where
  pub first : slice_index_or starts 0 n ≡ 0
  pub ordered : AreOrdered 0 starts n

-- a row, empty past the last one
abbrev pub row_at : {X : Type 0} → List (List X) → ℕ → List X
row_at rows r = slice_index_or rows r []

-- one item more in the last row
abbrev pub with_item : {X : Type 0} → List (List X) → X → List (List X)
with_item [] x = []
with_item (row ∷ []) x = (row ++ x ∷ []) ∷ []
with_item (row ∷ (next ∷ rows)) x = row ∷ with_item (next ∷ rows) x

-- all items, row by row
abbrev pub flat : {X : Type 0} → List (List X) → List X
flat rows = flat_map (λ row. row) rows

-- the number of item k of row r among all items
abbrev pub number_of : {X : Type 0} → List (List X) → ℕ → ℕ → ℕ
number_of rows r k = length (flat (take r rows)) + k
