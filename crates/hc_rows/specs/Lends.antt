-- What rows end as where one of them is lent for changes.
use Rattle.std.specs.Prelude.{ℕ, zero, suc, List, [], ◌∷◌, length, drop}
use Rattle.std.specs.List.{refill}
use Rattle.std.specs.Borrow.{Lends, Fml, RattleType, MutBor, Array}
use Rattle.hc_rows.specs.contracts.rows.Rows.{the_row}

-- the rows after these items were written over theirs, from the first on, as far as they go
abbrev pub overwritten : {X : Type 0} → List (List X) → List X → List (List X)
overwritten [] items = []
overwritten (row ∷ rows) items = refill (length row) row items ∷ overwritten rows (drop (length row) items)

-- the same from row r on: as many items as the row has replace that row, and no other
abbrev pub with_row : {X : Type 0} → List (List X) → ℕ → List X → List (List X)
with_row [] r items = []
with_row (row ∷ rows) zero items = overwritten (row ∷ rows) items
with_row (row ∷ rows) (suc r) items = row ∷ with_row rows r items

-- once the borrow ends, the row is what was left behind it
abbrev pub lends_row : (T : RattleType) → MutBor (List (List T.Denot)) → ℕ → MutBor (List T.Denot) → Fml
lends_row T rows r lent = Lends (the_row T) (Array T 0) rows lent (with_row rows.now r)
